use native.Mathlib.Omega.{arith}
use borrow.Author.Rules.{rules}
use Rattle.lists.proofs.Bools.{passes_test, fails_test}
use Rattle.trim.proofs.ReplayLaws.{replay_start, replay_in, replay_next, replay_stops, replay_end, record_part}
use Rattle.trim.proofs.replay.Goals as goal

pub loop-k-init : goal.loop-k-init
loop-k-init c = replay_start _ _ _ c.requires

pub overflow_cast-at : goal.overflow_cast-at
overflow_cast-at c = omega (arith, c.type_inv.positions c.loop-k.k-index)

pub overflow_mul-at : goal.overflow_mul-at
overflow_mul-at c = omega (arith, c.type_inv.positions c.loop-k.k-index)

pub overflow_add-at : goal.overflow_add-at
overflow_add-at c = omega (arith, c.type_inv.positions c.loop-k.k-index)

pub slice_bounds-step-end : goal.slice_bounds-step-end
slice_bounds-step-end c = omega (arith, replay_in _ _ _ _ _ c.loop-k.invariant c.loop-k-test.true)

pub returns-then-not-is_accepted : goal.returns-then-not-is_accepted
returns-then-not-is_accepted c =
    replay_stops _ _ _ _ _ _ _ _ c.loop-k.invariant c.loop-k-test.true (record_part _ _) c.step-answer.ensures.0 c.step-answer.ensures.1 (search rules)
    (fails_test c.is_accepted.ensures c.if-not-is_accepted.true-raw)

pub loop-k-preserved : goal.loop-k-preserved
loop-k-preserved c =
    replay_next _ _ _ _ _ _ _ _ c.loop-k.invariant c.loop-k-test.true (record_part _ _) c.step-answer.ensures.0 c.step-answer.ensures.1 (search rules)
    (passes_test c.is_accepted.ensures c.if-not-is_accepted.false-raw)

pub returns : goal.returns
returns c = replay_end _ _ _ _ _ c.loop-k.invariant c.loop-k-test.false
