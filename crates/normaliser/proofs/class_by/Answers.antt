-- The test of the unrestricted rule decides.
use mathlib.Core.Path.{sym, ◌∙◌}
use Rattle.normaliser.proofs.class_by.Goals as goal

pub returns-then-is_unrestricted : goal.returns-then-is_unrestricted
returns-then-is_unrestricted c = rw (sym c.is_unrestricted.ensures ∙ c.if-is_unrestricted.true)

pub returns : goal.returns
returns c = rw (sym c.is_unrestricted.ensures ∙ c.if-is_unrestricted.false)
