-- The invariant: the rows of the targets before y are in the row.
use Rattle.withdrawals.proofs.FitLaws.{Reaching}
use Rattle.withdrawals.proofs.reached_from.Given as goal

abbrev pub invariant-loop-y : goal.invariant-loop-y
invariant-loop-y l = Reaching l.flows l.n l.targets l.reached l.y
