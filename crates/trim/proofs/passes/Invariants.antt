-- `trim::passes`: so many positions are kept, and the last pass dropped none unless it is still to be made (`Trimming`).
use Rattle.trim.proofs.TrimLoop.{Trimming}
use Rattle.trim.proofs.passes.Given as goal

abbrev pub invariant-loop-kept : goal.invariant-loop-kept
invariant-loop-kept l = Trimming l.image l.trace l.last l.wide l.before l.work l.positions l.n l.kept

abbrev pub decreases-loop-kept : goal.decreases-loop-kept
decreases-loop-kept l = l.n
