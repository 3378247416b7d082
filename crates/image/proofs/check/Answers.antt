-- The six conditions, each tested once those before it have passed; the last three in `check_records`.
use native.Mathlib.Omega.{arith}
use mathlib.Core.Path.{sym, ◌∙◌}
use Rattle.lists.specs.Conditions.{numbers_of, number_at}
use Rattle.lists.proofs.Bools.{passes_test, fails_test}
use Rattle.lists.proofs.Conditions.{passed}
use Rattle.image.specs.Image.{image_conditions, check_of}
use Rattle.image.proofs.ImageRefusals.{refused_at, too_short, too_long, long_enough}
use Rattle.image.proofs.check.Goals as goal

-- ---- the places where each test has passed, each from the next

-- ---- the needs

pub returns-then-image-lt-HEADER_SIZE : goal.returns-then-image-lt-HEADER_SIZE
unfolding image_conditions number_at numbers_of
returns-then-image-lt-HEADER_SIZE c = sym ((refused_at _ 0 (omega arith)).1 (too_short c.args.image.now c.if-image-lt-HEADER_SIZE.true))

pub returns-then-image-gt-IMAGE_LIMIT : goal.returns-then-image-gt-IMAGE_LIMIT
unfolding image_conditions number_at numbers_of
returns-then-image-gt-IMAGE_LIMIT c = sym ((refused_at _ 0 (omega arith)).1 (too_long c.args.image.now c.if-image-lt-HEADER_SIZE.false c.if-image-gt-IMAGE_LIMIT.true))

pub returns-then-not-pairs_good : goal.returns-then-not-pairs_good
unfolding image_conditions number_at numbers_of
returns-then-not-pairs_good c = sym ((refused_at c.args.image.now 1 (omega arith)).1
    ((long_enough c.args.image.now c.if-image-lt-HEADER_SIZE.false c.if-image-gt-IMAGE_LIMIT.false), fails_test c.pairs_good.ensures c.if-not-pairs_good.true-raw))

pub sections_good-requires : goal.sections_good-requires
sections_good-requires c = (c.if-image-lt-HEADER_SIZE.false, (passes_test c.pairs_good.ensures c.if-not-pairs_good.false-raw))

pub returns-then-not-sections_good : goal.returns-then-not-sections_good
unfolding image_conditions number_at numbers_of
returns-then-not-sections_good c =
    sym ((refused_at c.args.image.now 2 (omega arith)).1 (
      (long_enough c.args.image.now c.if-image-lt-HEADER_SIZE.false c.if-image-gt-IMAGE_LIMIT.false),
      ((passes_test c.pairs_good.ensures c.if-not-pairs_good.false-raw), fails_test c.sections_good.ensures c.if-not-sections_good.true-raw),
    ))

pub check_records-requires : goal.check_records-requires
check_records-requires c = (c.if-image-lt-HEADER_SIZE.false, (passes_test c.pairs_good.ensures c.if-not-pairs_good.false-raw))

pub returns : goal.returns
unfolding check_of image_conditions
returns c =
    c.check_records.ensures ∙ sym (passed _ _ ((long_enough c.args.image.now c.if-image-lt-HEADER_SIZE.false c.if-image-gt-IMAGE_LIMIT.false))
    ∙ passed _ _ ((passes_test c.pairs_good.ensures c.if-not-pairs_good.false-raw)) ∙ passed _ _ ((passes_test c.sections_good.ensures c.if-not-sections_good.false-raw)))
