-- `trim::pass`: kept positions at the front, the session that they leave, and the cut so far (`Passes`).
use Rattle.trim.proofs.PassLaws.{Passes}
use Rattle.trim.proofs.pass.Given as goal

abbrev pub invariant-loop-i : goal.invariant-loop-i
invariant-loop-i l = Passes l.initial.before l.trace l.initial.positions l.n l.last l.wide l.before l.work l.positions l.kept l.i
