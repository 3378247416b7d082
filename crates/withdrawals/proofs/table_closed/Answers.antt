use mathlib.Core.Path.{sym, ◌∙◌}
use Rattle.rules.proofs.SetLaws.{holds_is, holds_not}
use Rattle.withdrawals.specs.Returns.{table_closed}
use Rattle.lists.proofs.Below.{passing_next, passing_fails, passing_end}
use Rattle.withdrawals.proofs.FitLaws.{row_closed_is}
use Rattle.withdrawals.proofs.table_closed.Goals as goal

pub returns-then-row-reached : goal.returns-then-row-reached
unfolding table_closed
returns-then-row-reached c =
    passing_fails _ _ _ c.loop-a-test.true
    (sym (row_closed_is _ _ c.requires _ _ c.reached_from-reached.ensures) ∙ holds_not _ _ c.if-row-reached.true)

pub loop-a-preserved : goal.loop-a-preserved
loop-a-preserved c =
    passing_next _ _ _ c.loop-a.invariant c.loop-a-test.true
    (sym (row_closed_is _ _ c.requires _ _ c.reached_from-reached.ensures) ∙ holds_is _ _ c.if-row-reached.false)

pub returns : goal.returns
unfolding table_closed
returns c = passing_end _ _ _ c.loop-a.invariant c.loop-a-test.false
