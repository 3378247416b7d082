-- The invariant: the subjects before s are closed.
use lib.ListN.{length}
use Rattle.lists.proofs.Below.{Passing}
use Rattle.matrix.specs.Rows.{subject_closed}
use Rattle.matrix.proofs.rows_closed.Given as goal

abbrev pub invariant-loop-s : goal.invariant-loop-s
invariant-loop-s l = Passing (subject_closed l.reads l.writes) (length l.reads) l.s
