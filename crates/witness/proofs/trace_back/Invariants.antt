-- Invariant: what is written, and what is left of the way back, is the whole chain (`Following`).
use Rattle.witness.proofs.BackLaws.{Following}
use Rattle.witness.proofs.trace_back.Given as goal

abbrev pub invariant-loop-v : goal.invariant-loop-v
invariant-loop-v l = Following l.links l.node l.initial.steps l.v l.first l.steps

abbrev pub decreases-loop-v : goal.decreases-loop-v
decreases-loop-v l = l.v
