-- `operations::early_refusal`. Condition by condition: the first that fails gives its number.
use native.Mathlib.Omega.{arith}
use Rattle.operations.proofs.RefusalTests.{user_low, object_kind, early_10, early_11, early_12, early_13, early_14, early_18, early_none, early_passed}
use Rattle.operations.proofs.early_refusal.Goals as goal

-- ---- the places where each test has passed, each from the next

-- ---- the needs

pub rows_good-requires : goal.rows_good-requires
rows_good-requires c = c.requires

pub returns-then-not-rows_good : goal.returns-then-not-rows_good
returns-then-not-rows_good c = early_10 _ _ c.requires.0.asked _ c.rows_good.ensures c.if-not-rows_good.true-raw

pub returns-then-not-is_process : goal.returns-then-not-is_process
returns-then-not-is_process c =
    early_11 _ _ c.requires.0.asked _ c.rows_good.ensures c.if-not-rows_good.false-raw _ c.is_process.ensures c.if-not-is_process.true-raw

pub object_fits-requires : goal.object_fits-requires
object_fits-requires c =
    object_kind _ _ c.requires.0.asked _ c.rows_good.ensures c.if-not-rows_good.false-raw

pub returns-then-need-eq-FREE_KINDS : goal.returns-then-need-eq-FREE_KINDS
returns-then-need-eq-FREE_KINDS c =
    early_13 _ _ c.requires.0.asked _ c.rows_good.ensures c.if-not-rows_good.false-raw _ c.is_process.ensures
    c.if-not-is_process.false-raw _ c.requires.1 _ c.object_fits.ensures c.if-not-object_fits.true-raw c.if-need-eq-FREE_KINDS.true

pub returns-then-not-object_fits : goal.returns-then-not-object_fits
returns-then-not-object_fits c =
    early_12 _ _ c.requires.0.asked _ c.rows_good.ensures c.if-not-rows_good.false-raw _ c.is_process.ensures
    c.if-not-is_process.false-raw _ c.requires.1 _ c.object_fits.ensures c.if-not-object_fits.true-raw c.if-need-eq-FREE_KINDS.false

pub returns-then-not-need : goal.returns-then-not-need
returns-then-not-need c =
    early_none _ _ c.requires.0.asked _ c.rows_good.ensures c.if-not-rows_good.false-raw _ c.is_process.ensures
    c.if-not-is_process.false-raw _ c.requires.1 _ c.object_fits.ensures c.if-not-object_fits.false-raw c.if-not-need.true

pub overflow_mul-c : goal.overflow_mul-c
overflow_mul-c c = omega (arith, (user_low _ _ _ c.requires.0 c.requires.1 c.if-not-need.false))

pub overflow_add-c : goal.overflow_add-c
overflow_add-c c = omega (arith, (user_low _ _ _ c.requires.0 c.requires.1 c.if-not-need.false))

pub offset_bounds-s-c : goal.offset_bounds-s-c
offset_bounds-s-c c = omega (arith, (user_low _ _ _ c.requires.0 c.requires.1 c.if-not-need.false))

pub bounds-s-c : goal.bounds-s-c
bounds-s-c c = omega (arith, (user_low _ _ _ c.requires.0 c.requires.1 c.if-not-need.false))

pub returns-then-s-c-ne-DECLARED : goal.returns-then-s-c-ne-DECLARED
returns-then-s-c-ne-DECLARED c =
    early_14 _ _ c.requires.0.asked _ c.rows_good.ensures c.if-not-rows_good.false-raw _ c.is_process.ensures
    c.if-not-is_process.false-raw _ c.requires.1 _ c.object_fits.ensures c.if-not-object_fits.false-raw c.if-not-need.false
    c.if-s-c-ne-DECLARED.true

pub returns-then-q-ne-NEW_FILE_CODE : goal.returns-then-q-ne-NEW_FILE_CODE
returns-then-q-ne-NEW_FILE_CODE c =
    early_passed _ _ c.requires.0.asked _ c.rows_good.ensures c.if-not-rows_good.false-raw _ c.is_process.ensures
    c.if-not-is_process.false-raw _ c.requires.1 _ c.object_fits.ensures c.if-not-object_fits.false-raw c.if-not-need.false
    c.if-s-c-ne-DECLARED.false c.if-q-ne-NEW_FILE_CODE.true

pub returns : goal.returns
returns c =
    early_18 _ _ c.requires.0.asked _ c.rows_good.ensures c.if-not-rows_good.false-raw _ c.is_process.ensures
    c.if-not-is_process.false-raw _ c.requires.1 _ c.object_fits.ensures c.if-not-object_fits.false-raw c.if-not-need.false
    c.if-s-c-ne-DECLARED.false c.if-q-ne-NEW_FILE_CODE.false _ c.behalf_of.ensures _ c.behalf_refusal.ensures
