-- The invariant: the rows before s have taken in row k.
use lib.ListN.{get_or}
use Rattle.matrix.specs.Limits.{subject_limit}
use Rattle.matrix.proofs.RowLoops.{Stored, JoinedAt}
use Rattle.matrix.proofs.pass_through.Given as goal

abbrev pub invariant-loop-s : goal.invariant-loop-s
invariant-loop-s l = Stored (JoinedAt l.read (get_or l.initial.reach l.k 0) l.initial.reach) subject_limit l.initial.reach l.reach l.s
