-- `operations::meet_at`. The parts that are lent are the two rules.
use Prim.Native.Nat.{ℕ}
use mathlib.Core.Path.{ap₂, ◌∙◌}
use mathlib.Core.List.{List}
use Rattle.rules.specs.Answers.{bounded_if_fits}
use Rattle.rules.specs.Rules.{meet}
use Rattle.rule_words.specs.Words.{rule_of}
use Rattle.operations.proofs.RowSteps.{words_lent, kept_lent}
use Rattle.operations.proofs.meet_at.Goals as goal

pub meet_kept-requires : goal.meet_kept-requires
meet_kept-requires c = (kept_lent c.args.s.now c.args.x c.requires.0, kept_lent c.args.s.now c.args.y c.requires.1)

pub returns : goal.returns
returns c =
    let s = c.args.s.now in
    c.meet_kept.ensures ∙ ap₂ (λ (x y : List ℕ). bounded_if_fits (meet (rule_of x) (rule_of y))) (words_lent s c.args.x) (words_lent s c.args.y)
