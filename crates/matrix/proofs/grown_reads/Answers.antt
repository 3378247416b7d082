use native.Mathlib.Omega.{arith}
use Rattle.matrix.proofs.VerdictLoops.{growing_take, growing_skip}
use Rattle.matrix.proofs.grown_reads.Goals as goal
use Rattle.matrix.proofs.grown_reads.Goals.{then-writes-s, else-writes-s}

pub loop-s-preserved : goal.loop-s-preserved
loop-s-preserved c =
    elim c.if-writes-s.branch [
      | then-writes-s w ↦ rw w.grown-is (growing_take _ _ _ _ _ c.loop-s.invariant)
      | else-writes-s w ↦ rw w.grown-is (growing_skip _ _ _ _ _ c.loop-s.invariant (omega (arith, w.if-writes-s.false)))
    ]
