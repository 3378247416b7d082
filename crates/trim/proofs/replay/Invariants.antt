-- `trim::replay`: each need by a law of proofs/.
use Rattle.trim.proofs.ReplayLaws.{Replaying}
use Rattle.trim.proofs.replay.Given as goal

abbrev pub invariant-loop-k : goal.invariant-loop-k
invariant-loop-k l = Replaying l.initial.session l.trace l.positions l.session l.k-index
