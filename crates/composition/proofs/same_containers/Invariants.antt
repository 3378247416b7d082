-- The invariant: the first i containers agree, and the rest decides.
use Rattle.composition.proofs.RecordLoops.{Comparing}
use Rattle.composition.proofs.same_containers.Given as goal

abbrev pub invariant-loop-i : goal.invariant-loop-i
invariant-loop-i l = Comparing l.a l.b l.i
