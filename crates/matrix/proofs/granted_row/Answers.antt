use Rattle.matrix.proofs.RowLoops.{granting_start, granting_take, granting_skip, granting_end}
use Rattle.matrix.proofs.granted_row.Goals as goal
use Rattle.matrix.proofs.granted_row.Goals.{then-r-a-eq1, else-r-a-eq1}

pub loop-s-init : goal.loop-s-init
loop-s-init c = granting_start _ _ _ c.requires.0 c.requires.1

pub loop-s-preserved : goal.loop-s-preserved
loop-s-preserved c =
    elim c.if-r-a-eq1.branch [
      | then-r-a-eq1 w ↦ rw w.row-is (granting_take _ _ _ _ _ c.loop-s.invariant c.loop-s-test.true w.if-r-a-eq1.true)
      | else-r-a-eq1 w ↦ rw w.row-is (granting_skip _ _ _ _ _ c.loop-s.invariant c.loop-s-test.true w.if-r-a-eq1.false)
    ]

pub returns : goal.returns
returns c = granting_end _ _ _ _ _ c.loop-s.invariant c.loop-s-test.false
