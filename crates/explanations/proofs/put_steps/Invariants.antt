-- `explanations::put_steps`. Invariant: the steps of the first i numbers are written (`Stepping`).
use Rattle.explanations.proofs.ExplanationLines.{Stepping}
use Rattle.explanations.proofs.put_steps.Given as goal

abbrev pub invariant-loop-n : goal.invariant-loop-n
invariant-loop-n l = Stepping l.numbers l.initial.out l.out l.at l.next l.n-index
