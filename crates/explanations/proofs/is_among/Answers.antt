-- `explanations::is_among`. The test of each number is that of the list.
use mathlib.Core.Path.{◌∙◌}
use Rattle.explanations.proofs.ExplanationLines.{any_elem}
use Rattle.explanations.proofs.is_among.Goals as goal

pub returns : goal.returns
returns c = c.contains.ensures.value ∙ any_elem _ _
