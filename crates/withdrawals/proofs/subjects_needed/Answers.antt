use native.Mathlib.Omega.{arith}
use mathlib.Core.Path.{◌∙◌}
use Rattle.lists.proofs.Bools.{passes_test, fails_test}
use Rattle.withdrawals.specs.Judgements.{minimal}
use Rattle.lists.proofs.Below.{passing_next, passing_fails, passing_end}
use Rattle.withdrawals.proofs.NeedLaws.{subject_is}
use Rattle.withdrawals.proofs.subjects_needed.Goals as goal

pub returns-then-not-losses_needed : goal.returns-then-not-losses_needed
unfolding minimal
returns-then-not-losses_needed c =
    let s = c.loop-s.s in
    passing_fails _ _ _ c.loop-s-test.true
    (fails_test (c.losses_needed.ensures
    ∙ subject_is _ _ _ _ _ _ c.requires s c.loop-s-test.true (omega (arith, c.type_inv.old_reads s)) (omega (arith, c.type_inv.old_writes s))
    (omega (arith, c.type_inv.reads s)) (omega (arith, c.type_inv.writes s))) c.if-not-losses_needed.true-raw)

pub loop-s-preserved : goal.loop-s-preserved
loop-s-preserved c =
    let s = c.loop-s.s in
    passing_next _ _ _ c.loop-s.invariant c.loop-s-test.true
    (passes_test (c.losses_needed.ensures
    ∙ subject_is _ _ _ _ _ _ c.requires s c.loop-s-test.true (omega (arith, c.type_inv.old_reads s)) (omega (arith, c.type_inv.old_writes s))
    (omega (arith, c.type_inv.reads s)) (omega (arith, c.type_inv.writes s))) c.if-not-losses_needed.false-raw)

pub returns : goal.returns
unfolding minimal
returns c = passing_end _ _ _ c.loop-s.invariant c.loop-s-test.false
