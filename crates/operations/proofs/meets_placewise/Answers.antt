-- `operations::meets_placewise`. By the lengths, then by the two tests.
use mathlib.Core.Path.{sym, ◌∙◌}
use Rattle.operations.proofs.RowSteps.{lengths_differ, met_within, met_alike}
use Rattle.operations.proofs.meets_placewise.Goals as goal

pub returns-then-r-v : goal.returns-then-r-v
returns-then-r-v c = lengths_differ _ _ c.if-r-v.true

pub returns-then-within : goal.returns-then-within
returns-then-within c = met_within _ _ c.if-r-v.false (sym c.within.ensures ∙ c.if-within.true)

pub returns : goal.returns
returns c = c.alike.ensures ∙ met_alike _ _ c.if-r-v.false (sym c.within.ensures ∙ c.if-within.false)
