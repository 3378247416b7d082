-- The invariant: the rows before a spell the granted flows.
use Rattle.matrix.proofs.RowLoops.{Stored, GrantedAt}
use Rattle.matrix.proofs.fill_granted.Given as goal

abbrev pub invariant-loop-a : goal.invariant-loop-a
invariant-loop-a l = Stored (GrantedAt l.reads l.writes) l.n l.initial.rows l.rows l.a
