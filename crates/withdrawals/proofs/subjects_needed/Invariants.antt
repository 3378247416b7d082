-- The invariant: the rights of the subjects before s are needed.
use lib.ListN.{length}
use Rattle.matrix.specs.Flows.{matrix_of}
use Rattle.withdrawals.specs.Judgements.{subject_needed}
use Rattle.lists.proofs.Below.{Passing}
use Rattle.withdrawals.proofs.subjects_needed.Given as goal

abbrev pub invariant-loop-s : goal.invariant-loop-s
invariant-loop-s l = Passing (subject_needed (matrix_of l.old_reads l.old_writes l.n) (matrix_of l.reads l.writes l.n)) (length l.reads) l.s
