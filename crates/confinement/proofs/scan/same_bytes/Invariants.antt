-- Byte by byte it is told whether the bytes so far are the same.
use Rattle.confinement.proofs.PathSearch.{SameHead}
use Rattle.confinement.proofs.scan.same_bytes.Given as goal

abbrev pub invariant-loop-i : goal.invariant-loop-i
invariant-loop-i l = SameHead l.text l.a l.b l.size l.i l.same
