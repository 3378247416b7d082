use native.Mathlib.Omega.{arith}
use Rattle.matrix.proofs.VerdictLoops.{counting_start, counting_next, counting_skip, counting_end}
use Rattle.matrix.proofs.count_flows.Goals as goal
use Rattle.matrix.proofs.count_flows.Goals.{then-row-ne0, else-row-ne0}

pub loop-a-init : goal.loop-a-init
loop-a-init c = counting_start _ _ _ _ c.requires.0

pub loop-a-preserved : goal.loop-a-preserved
loop-a-preserved c =
    let k = c.loop-a.invariant in
    let row = c.ungranted_row-row in
    elim c.if-row-ne0.branch [
      | then-row-ne0 w ↦ rw w.count-is (counting_next _ _ _ _ _ _ _ c.requires.0 k c.loop-a-test.true row.type_inv row.ensures)
      | else-row-ne0 w ↦ rw w.count-is (counting_skip _ _ _ _ _ _ _ c.requires.0 k c.loop-a-test.true (omega (arith, w.if-row-ne0.false)) row.ensures)
    ]

pub returns : goal.returns
returns c = counting_end _ _ _ _ _ c.loop-a.invariant c.loop-a-test.false
