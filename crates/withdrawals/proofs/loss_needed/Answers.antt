-- The test is bit k of the lost rights.
use mathlib.Core.Path.{ap}
use mathlib.Core.Bool.{not}
use Rattle.matrix.proofs.RowBits.{has_is, has_not}
use Rattle.withdrawals.specs.Returns.{loss_needed}
use Rattle.withdrawals.proofs.loss_needed.Goals as goal

pub returns-then-lost-k-eq1 : goal.returns-then-lost-k-eq1
unfolding loss_needed
returns-then-lost-k-eq1 c = rw (has_is _ _ c.if-lost-k-eq1.true) (ap not c.stays_closed.ensures)

pub returns : goal.returns
unfolding loss_needed
returns c = rw (has_not _ _ c.if-lost-k-eq1.false)
