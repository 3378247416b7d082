-- `operations::rows_good`. Row by row, each test decides `rows_good` or leaves it to the next.
use native.Mathlib.Omega.{arith}
use Rattle.operations.proofs.RefusalTests.{user_low, process_row_bad, object_row_bad, no_user_row, by_user_row}
use Rattle.operations.proofs.rows_good.Goals as goal

-- ---- the places where each test has passed, each from the next

-- ---- the needs

pub returns-then-not-process_row_good : goal.returns-then-not-process_row_good
returns-then-not-process_row_good c = process_row_bad _ _ c.requires.0.asked _ c.process_row_good.ensures c.if-not-process_row_good.true-raw

pub returns-then-not-object_row_good : goal.returns-then-not-object_row_good
returns-then-not-object_row_good c =
    object_row_bad _ _ c.requires.0.asked _ c.process_row_good.ensures c.if-not-process_row_good.false-raw _
    c.object_row_good.ensures c.if-not-object_row_good.true-raw

pub returns-then-not-need : goal.returns-then-not-need
returns-then-not-need c =
    no_user_row _ _ c.requires.0.asked _ c.process_row_good.ensures c.if-not-process_row_good.false-raw _
    c.object_row_good.ensures c.if-not-object_row_good.false-raw _ c.requires.1 c.if-not-need.true

pub overflow_mul-c : goal.overflow_mul-c
overflow_mul-c c = omega (arith, (user_low _ _ _ c.requires.0 c.requires.1 c.if-not-need.false))

pub overflow_add-c : goal.overflow_add-c
overflow_add-c c = omega (arith, (user_low _ _ _ c.requires.0 c.requires.1 c.if-not-need.false))

pub overflow_add-c-2 : goal.overflow_add-c-2
overflow_add-c-2 c = omega (arith, (user_low _ _ _ c.requires.0 c.requires.1 c.if-not-need.false))

pub offset_bounds-s-c : goal.offset_bounds-s-c
offset_bounds-s-c c = omega (arith, (user_low _ _ _ c.requires.0 c.requires.1 c.if-not-need.false))

pub slice_bounds-user_row_good-end : goal.slice_bounds-user_row_good-end
slice_bounds-user_row_good-end c = omega (arith, (user_low _ _ _ c.requires.0 c.requires.1 c.if-not-need.false))

pub returns : goal.returns
returns c =
    by_user_row _ _ c.requires.0.asked _ c.process_row_good.ensures c.if-not-process_row_good.false-raw _
    c.object_row_good.ensures c.if-not-object_row_good.false-raw _ c.requires.1 c.if-not-need.false _ c.user_row_good.ensures
