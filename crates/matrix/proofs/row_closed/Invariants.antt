-- The invariant: the subjects before t stay in the row.
use lib.ListN.{length}
use Rattle.lists.proofs.Below.{Passing}
use Rattle.matrix.specs.Rows.{stays_in}
use Rattle.matrix.proofs.row_closed.Given as goal

abbrev pub invariant-loop-t : goal.invariant-loop-t
invariant-loop-t l = Passing (stays_in l.reads l.writes l.row) (length l.reads) l.t
