-- `explanations::part_at`. A whole part is left, or fewer.
use Rattle.explanations.proofs.ExplanationLines.{short_part, whole_part}
use Rattle.explanations.proofs.part_at.Goals as goal

pub returns-then-numbers-at-lt-PART_LIMIT : goal.returns-then-numbers-at-lt-PART_LIMIT
returns-then-numbers-at-lt-PART_LIMIT c = short_part c.args.numbers.now c.args.at c.if-numbers-at-lt-PART_LIMIT.true

pub returns : goal.returns
returns c = whole_part c.args.numbers.now c.args.at
