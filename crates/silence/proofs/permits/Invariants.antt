-- The invariant: what is left of the writers, or the object alone, decides.
use Rattle.silence.proofs.PermitLaws.{Permitting}
use Rattle.silence.proofs.permits.Given as goal

abbrev pub invariant-loop-s : goal.invariant-loop-s
invariant-loop-s l = Permitting l.reads l.writes l.b l.tag l.s
