-- `operations::object_row_good`. Both tests ensure the same; the general one is lent all of the row.
use native.Mathlib.Nat.{le_of_eq}
use mathlib.Core.Path.{sym, ap, ◌∙◌}
use lib.Seq.{take_all}
use Rattle.session.specs.Limits.{row_width}
use Rattle.session.specs.Rows.{container_row_good}
use Rattle.operations.proofs.object_row_good.Goals as goal

pub single_row_good-requires : goal.single_row_good-requires
single_row_good-requires c = (c.requires, sym c.singles.ensures ∙ c.if-singles.true)

pub returns : goal.returns
returns c = c.container_row_good.ensures ∙ ap container_row_good (take_all row_width _ (le_of_eq c.requires))
