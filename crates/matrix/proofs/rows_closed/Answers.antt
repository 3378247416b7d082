use mathlib.Core.Path.{◌∙◌}
use Rattle.lists.proofs.Bools.{passes_test, fails_test}
use Rattle.lists.proofs.Below.{passing_next, passing_fails, passing_end}
use Rattle.matrix.specs.Rows.{rows_closed}
use Rattle.matrix.proofs.SubjectReach.{subject_none, subject_is}
use Rattle.matrix.proofs.rows_closed.Goals as goal
use Rattle.matrix.proofs.rows_closed.Goals.{else-r-ne0-via-then-r-ne0+else-not-row_closed, else-r-ne0-via-else-r-ne0}

pub returns-then-not-row_closed : goal.returns-then-not-row_closed
unfolding rows_closed
returns-then-not-row_closed c =
    passing_fails _ _ _ c.loop-s-test.true
    (subject_is _ _ _ c.if-r-ne0.true ∙ fails_test c.row_closed.ensures c.if-not-row_closed.true-raw)

pub loop-s-preserved : goal.loop-s-preserved
loop-s-preserved c =
    passing_next _ _ _ c.loop-s.invariant c.loop-s-test.true
    (elim c.else-r-ne0.branch [
      | else-r-ne0-via-then-r-ne0+else-not-row_closed w ↦
          subject_is _ _ _ w.if-r-ne0.true ∙ passes_test w.row_closed.ensures w.if-not-row_closed.false-raw
      | else-r-ne0-via-else-r-ne0 w ↦ subject_none _ _ _ w.if-r-ne0.false
    ])

pub returns : goal.returns
unfolding rows_closed
returns c = passing_end _ _ _ c.loop-s.invariant c.loop-s-test.false
