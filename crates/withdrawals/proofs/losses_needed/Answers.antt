use native.Mathlib.Omega.{arith}
use Rattle.lists.proofs.Bools.{passes_test, fails_test}
use Rattle.withdrawals.specs.Returns.{losses_needed}
use Rattle.lists.proofs.Below.{passing_next, passing_fails, passing_end}
use Rattle.withdrawals.proofs.NeedLaws.{read_not_needed, write_not_needed, both_needed}
use Rattle.withdrawals.proofs.losses_needed.Goals as goal

pub returns-then-not-loss_needed : goal.returns-then-not-loss_needed
unfolding losses_needed
returns-then-not-loss_needed c =
    passing_fails _ _ _ c.loop-k-test.true
    (read_not_needed _ _ _ _ _ _ _ (omega (arith, c.loop-k-test.true, c.requires.few)) (fails_test c.loss_needed.ensures c.if-not-loss_needed.true-raw))

pub returns-then-not-loss_needed-2 : goal.returns-then-not-loss_needed-2
unfolding losses_needed
returns-then-not-loss_needed-2 c =
    passing_fails _ _ _ c.loop-k-test.true
    (write_not_needed _ _ _ _ _ _ _ (omega (arith, c.loop-k-test.true, c.requires.few))
    (passes_test c.loss_needed.ensures c.if-not-loss_needed.false-raw) (fails_test c.loss_needed-in-loop-k.ensures c.if-not-loss_needed-2.true-raw))

pub loop-k-preserved : goal.loop-k-preserved
loop-k-preserved c =
    passing_next _ _ _ c.loop-k.invariant c.loop-k-test.true
    (both_needed _ _ _ _ _ _ _ (omega (arith, c.loop-k-test.true, c.requires.few))
    (passes_test c.loss_needed.ensures c.if-not-loss_needed.false-raw) (passes_test c.loss_needed-in-loop-k.ensures c.if-not-loss_needed-2.false-raw))

pub returns : goal.returns
unfolding losses_needed
returns c = passing_end _ _ _ c.loop-k.invariant c.loop-k-test.false
