use Rattle.withdrawals.proofs.FitLaws.{reaching_start, reaching_take, reaching_skip, reaching_end}
use Rattle.withdrawals.proofs.reached_from.Goals as goal
use Rattle.withdrawals.proofs.reached_from.Goals.{then-targets-y-eq1, else-targets-y-eq1}

pub loop-y-init : goal.loop-y-init
loop-y-init c = reaching_start _ _ _ c.requires

pub loop-y-preserved : goal.loop-y-preserved
loop-y-preserved c =
    elim c.if-targets-y-eq1.branch [
      | then-targets-y-eq1 w ↦ rw w.reached-is (reaching_take _ _ _ _ _ c.loop-y.invariant c.loop-y-test.true w.if-targets-y-eq1.true)
      | else-targets-y-eq1 w ↦ rw w.reached-is (reaching_skip _ _ _ _ _ c.loop-y.invariant c.loop-y-test.true w.if-targets-y-eq1.false)
    ]

pub returns : goal.returns
returns c = reaching_end _ _ _ _ _ c.loop-y.invariant c.loop-y-test.false
