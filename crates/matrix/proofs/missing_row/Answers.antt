use native.Mathlib.Omega.{arith}
use Rattle.matrix.proofs.VerdictLoops.{missing_start, missing_take, missing_skip, missing_end}
use Rattle.matrix.proofs.missing_row.Goals as goal
use Rattle.matrix.proofs.missing_row.Goals.{then-r-a-eq1, else-r-a-eq1}

pub loop-s-init : goal.loop-s-init
loop-s-init c = missing_start _ _ _ _ _ c.requires.0 c.requires.1

pub loop-s-preserved : goal.loop-s-preserved
loop-s-preserved c =
    let m = c.loop-s.invariant in
    let s = c.loop-s.s in
    elim c.if-r-a-eq1.branch [
      | then-r-a-eq1 w ↦ rw (w.granted-is, w.reached-is)
          (missing_take _ _ _ _ _ _ _ m c.loop-s-test.true w.if-r-a-eq1.true (omega (arith, c.type_inv.writes s))
          (omega (arith, c.type_inv.reach s)))
      | else-r-a-eq1 w ↦ rw (w.granted-is, w.reached-is) (missing_skip _ _ _ _ _ _ _ m c.loop-s-test.true w.if-r-a-eq1.false)
    ]

pub returns : goal.returns
returns c =
    let l = c.loop-s in
    missing_end _ _ _ _ _ _ _ _ c.requires.0 c.requires.1 l.invariant c.loop-s-test.false
