-- The invariant: the sources before a are counted.
use Rattle.matrix.proofs.VerdictLoops.{Counting}
use Rattle.matrix.proofs.count_flows.Given as goal

abbrev pub invariant-loop-a : goal.invariant-loop-a
invariant-loop-a l = Counting l.reads l.writes l.n l.count l.a
