-- The invariant: what is left of the rows decides.
use Rattle.matrix.proofs.RowLoops.{Checking}
use Rattle.matrix.proofs.rows_within.Given as goal

abbrev pub invariant-loop-s : goal.invariant-loop-s
invariant-loop-s l = Checking l.objects l.reads l.writes l.s
