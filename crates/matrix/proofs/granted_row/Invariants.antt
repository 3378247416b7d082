-- The invariant: the flows of the subjects before s are in the row.
use Rattle.matrix.proofs.RowLoops.{Granting}
use Rattle.matrix.proofs.granted_row.Given as goal

abbrev pub invariant-loop-s : goal.invariant-loop-s
invariant-loop-s l = Granting l.reads l.writes l.a l.row l.s
