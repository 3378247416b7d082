-- The four sections, each tested once the ones before it have passed.
use native.Mathlib.Omega.{arith}
use Rattle.lists.proofs.Bools.{passes_test, fails_test}
use Rattle.image.specs.Image.{sections_good}
use Rattle.image.proofs.AcceptedImage.{part_ends}
use Rattle.image.proofs.sections_good.Goals as goal

-- ---- the tests that have passed, where each is left behind

-- ---- the needs

pub section-requires : goal.section-requires
section-requires c = (c.requires.0, omega arith, part_ends _ c.requires.1 0 (omega arith))

pub returns-then-not-whole_good : goal.returns-then-not-whole_good
unfolding sections_good
returns-then-not-whole_good c = simp (fails_test (rw c.section.ensures at c.whole_good.ensures) c.if-not-whole_good.true-raw)

pub section-requires-2 : goal.section-requires-2
section-requires-2 c = (c.requires.0, omega arith, part_ends _ c.requires.1 1 (omega arith))

pub returns-then-not-whole_good-2 : goal.returns-then-not-whole_good-2
unfolding sections_good
returns-then-not-whole_good-2 c =
    simp ((passes_test (rw c.section.ensures at c.whole_good.ensures) c.if-not-whole_good.false-raw), fails_test (rw c.section-2.ensures at c.whole_good-2.ensures) c.if-not-whole_good-2.true-raw)

pub section-requires-3 : goal.section-requires-3
section-requires-3 c = (c.requires.0, omega arith, part_ends _ c.requires.1 2 (omega arith))

pub returns-then-not-whole_good-3 : goal.returns-then-not-whole_good-3
unfolding sections_good
returns-then-not-whole_good-3 c =
    simp (
      (passes_test (rw c.section.ensures at c.whole_good.ensures) c.if-not-whole_good.false-raw),
      (passes_test (rw c.section-2.ensures at c.whole_good-2.ensures) c.if-not-whole_good-2.false-raw),
      fails_test (rw c.section-3.ensures at c.whole_good-3.ensures) c.if-not-whole_good-3.true-raw,
    )

pub section-requires-4 : goal.section-requires-4
section-requires-4 c = (c.requires.0, omega arith, part_ends _ c.requires.1 3 (omega arith))

pub returns : goal.returns
unfolding sections_good
returns c =
    simp (
      (passes_test (rw c.section.ensures at c.whole_good.ensures) c.if-not-whole_good.false-raw),
      (passes_test (rw c.section-2.ensures at c.whole_good-2.ensures) c.if-not-whole_good-2.false-raw),
      (passes_test (rw c.section-3.ensures at c.whole_good-3.ensures) c.if-not-whole_good-3.false-raw),
    )
    (rw c.section-4.ensures at c.whole_good-4.ensures)
