-- The invariant: the union of the differences of the first i bytes.
use Rattle.composition.proofs.SelfComposition.{Uniting}
use Rattle.composition.proofs.same_bytes.Given as goal

abbrev pub invariant-loop-i : goal.invariant-loop-i
invariant-loop-i l = Uniting l.a l.b l.all l.i
