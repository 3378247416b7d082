use Rattle.lists.proofs.Below.{passing_next, passing_fails, passing_end}
use Rattle.matrix.specs.Rows.{row_closed}
use Rattle.matrix.proofs.SubjectReach.{stays_apart, stays_within, stays_not}
use Rattle.matrix.proofs.row_closed.Goals as goal
use Rattle.matrix.proofs.row_closed.Goals.{else-row-r-ne0-via-then-row-r-ne0+else-row-w, else-row-r-ne0-via-else-row-r-ne0}

pub returns-then-row-w : goal.returns-then-row-w
unfolding row_closed
returns-then-row-w c = passing_fails _ _ _ c.loop-t-test.true (stays_not _ _ _ _ c.if-row-r-ne0.true c.if-row-w.true)

pub loop-t-preserved : goal.loop-t-preserved
loop-t-preserved c =
    passing_next _ _ _ c.loop-t.invariant c.loop-t-test.true
    (elim c.else-row-r-ne0.branch [
      | else-row-r-ne0-via-then-row-r-ne0+else-row-w w ↦ stays_within _ _ _ _ w.if-row-w.false
      | else-row-r-ne0-via-else-row-r-ne0 w ↦ stays_apart _ _ _ _ w.if-row-r-ne0.false
    ])

pub returns : goal.returns
unfolding row_closed
returns c = passing_end _ _ _ c.loop-t.invariant c.loop-t-test.false
