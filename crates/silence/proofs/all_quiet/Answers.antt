use native.Mathlib.Omega.{arith}
use mathlib.Core.Path.{sym, ◌∙◌}
use Rattle.lists.proofs.Bools.{passes_test, fails_test}
use Rattle.lists.proofs.Below.{passing_next, passing_fails, passing_end}
use Rattle.silence.specs.Silent.{silent}
use Rattle.silence.proofs.ExchangeLaws.{quiet_reached}
use Rattle.silence.proofs.all_quiet.Goals as goal

pub granted_row-tag-requires : goal.granted_row-tag-requires
granted_row-tag-requires c =
    let given = c.requires in
    (given.long, omega (arith, given.few, c.loop-b-test.true))

pub permits-requires : goal.permits-requires
permits-requires c =
    let given = c.requires in
    (sym given.even, omega (arith, given.few, c.loop-b-test.true))

pub returns-then-not-permits : goal.returns-then-not-permits
unfolding silent
returns-then-not-permits c =
    passing_fails _ _ _ c.loop-b-test.true
    (sym (quiet_reached _ _ _ _ c.requires _ _ c.loop-b-test.true c.granted_row-tag.ensures)
    ∙ fails_test c.permits.ensures c.if-not-permits.true-raw)

pub loop-b-preserved : goal.loop-b-preserved
loop-b-preserved c =
    passing_next _ _ _ c.loop-b.invariant c.loop-b-test.true
    (sym (quiet_reached _ _ _ _ c.requires _ _ c.loop-b-test.true c.granted_row-tag.ensures)
    ∙ passes_test c.permits.ensures c.if-not-permits.false-raw)

pub returns : goal.returns
unfolding silent
returns c = passing_end _ _ _ c.loop-b.invariant c.loop-b-test.false
