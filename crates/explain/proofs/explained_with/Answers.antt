-- `explain::explained_with`. The test is what is counted by.
use mathlib.Core.Path.{refl, sym, ◌∙◌}
use Rattle.explain.proofs.explained_with.Goals as goal

pub returns-then-is_forbidden : goal.returns-then-is_forbidden
returns-then-is_forbidden c = rw (sym c.is_forbidden.ensures ∙ c.if-is_forbidden.true) refl

pub returns : goal.returns
returns c = rw (sym c.is_forbidden.ensures ∙ c.if-is_forbidden.false) refl
