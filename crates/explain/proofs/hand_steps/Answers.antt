-- `explain::hand_steps`. Invariant: the steps of the first numbers are handed on (`HandedSteps`).
use native.Mathlib.Omega.{arith}
use Rattle.explain.proofs.HandLaws.{steps_start, part_few, part_some, steps_next, steps_end}
use Rattle.explain.proofs.hand_steps.Goals as goal

pub loop-at-init : goal.loop-at-init
loop-at-init c = steps_start _ _

pub part_at-part-requires : goal.part_at-part-requires
part_at-part-requires c = c.loop-at.invariant.within

pub put_steps-end-requires : goal.put_steps-end-requires
put_steps-end-requires c = let part = c.part_at-part in omega
    (arith, part_few c.args.numbers.now part.result.now c.loop-at.at part.ensures)

pub overflow_add-at : goal.overflow_add-at
overflow_add-at c =
    omega (arith, part_some _ _ _ c.part_at-part.ensures c.loop-at-test.true)

pub loop-at-smaller : goal.loop-at-smaller
loop-at-smaller c =
    omega (arith, part_some _ _ _ c.part_at-part.ensures c.loop-at-test.true)

pub loop-at-preserved : goal.loop-at-preserved
loop-at-preserved c =
    steps_next _ _ _ c.part_at-part.ensures _ _ _ _ _ _ c.loop-at.invariant c.loop-at-test.true c.put_steps-end.ensures c.in_ok-write_front.ensures

pub returns : goal.returns
returns c = steps_end _ _ _ _ c.loop-at.invariant c.loop-at-test.false
