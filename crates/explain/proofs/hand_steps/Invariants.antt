-- `explain::hand_steps`. Invariant: the steps of the first numbers are handed on (`HandedSteps`).
use Prim.Native.Nat.{◌-◌}
use lib.ListN.{length}
use Rattle.explain.proofs.HandLaws.{HandedSteps}
use Rattle.explain.proofs.hand_steps.Given as goal

abbrev pub invariant-loop-at : goal.invariant-loop-at
invariant-loop-at l = HandedSteps l.numbers l.initial.sent l.sent l.at

abbrev pub decreases-loop-at : goal.decreases-loop-at
decreases-loop-at l = length l.numbers - l.at
