use Rattle.rules.proofs.SetLaws.{holds_is, holds_not}
use Rattle.withdrawals.specs.Judgements.{rows_held}
use Rattle.lists.proofs.Below.{passing_next, passing_fails, passing_end}
use Rattle.withdrawals.proofs.rows_held.Goals as goal

pub returns-then-others-s : goal.returns-then-others-s
unfolding rows_held
returns-then-others-s c = passing_fails _ _ _ c.loop-s-test.true (holds_not _ _ c.if-others-s.true)

pub loop-s-preserved : goal.loop-s-preserved
loop-s-preserved c =
    passing_next _ _ _ c.loop-s.invariant c.loop-s-test.true (holds_is _ _ c.if-others-s.false)

pub returns : goal.returns
unfolding rows_held
returns c = passing_end _ _ _ c.loop-s.invariant c.loop-s-test.false
