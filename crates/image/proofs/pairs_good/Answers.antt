-- The leading number and the four pairs, each tested once those before it have passed.
use Prim.Native.Nat.{ℕ}
use mathlib.Core.Path.{ap, sym, ◌∙◌}
use lib.Dec.{eqb}
use borrow.Author.Tests.{eq-eqb, ne_eqb}
use Rattle.lists.proofs.Bools.{passes_test, fails_test}
use Rattle.image.specs.Limits.{leading_number}
use Rattle.image.specs.Image.{pairs_good}
use Rattle.image.proofs.pairs_good.Goals as goal

-- ---- the tests that have passed, where each is left behind

-- ---- the needs

pub returns-then-read16-ne-LEADING_NUMBER : goal.returns-then-read16-ne-LEADING_NUMBER
unfolding pairs_good
returns-then-read16-ne-LEADING_NUMBER c = simp (ap (λ (x : ℕ). eqb x leading_number) (sym c.read16.ensures.0) ∙ ne_eqb _ leading_number c.if-read16-ne-LEADING_NUMBER.true)

pub returns-then-not-part_good : goal.returns-then-not-part_good
unfolding pairs_good
returns-then-not-part_good c =
    simp ((ap (λ (x : ℕ). eqb x leading_number) (sym c.read16.ensures.0) ∙ eq-eqb _ leading_number c.if-read16-ne-LEADING_NUMBER.false), fails_test c.part_good.ensures c.if-not-part_good.true-raw)

pub returns-then-not-part_good-2 : goal.returns-then-not-part_good-2
unfolding pairs_good
returns-then-not-part_good-2 c =
    simp (
      (ap (λ (x : ℕ). eqb x leading_number) (sym c.read16.ensures.0) ∙ eq-eqb _ leading_number c.if-read16-ne-LEADING_NUMBER.false),
      (passes_test c.part_good.ensures c.if-not-part_good.false-raw),
      fails_test (rw c.end.ensures at c.part_good-2.ensures) c.if-not-part_good-2.true-raw,
    )

pub returns-then-not-part_good-3 : goal.returns-then-not-part_good-3
unfolding pairs_good
returns-then-not-part_good-3 c =
    simp (
      (ap (λ (x : ℕ). eqb x leading_number) (sym c.read16.ensures.0) ∙ eq-eqb _ leading_number c.if-read16-ne-LEADING_NUMBER.false),
      (passes_test c.part_good.ensures c.if-not-part_good.false-raw),
      (passes_test (rw c.end.ensures at c.part_good-2.ensures) c.if-not-part_good-2.false-raw),
      fails_test (rw c.end-2.ensures at c.part_good-3.ensures) c.if-not-part_good-3.true-raw,
    )

pub returns : goal.returns
unfolding pairs_good
returns c =
    simp (
      (ap (λ (x : ℕ). eqb x leading_number) (sym c.read16.ensures.0) ∙ eq-eqb _ leading_number c.if-read16-ne-LEADING_NUMBER.false),
      (passes_test c.part_good.ensures c.if-not-part_good.false-raw),
      (passes_test (rw c.end.ensures at c.part_good-2.ensures) c.if-not-part_good-2.false-raw),
      (passes_test (rw c.end-2.ensures at c.part_good-3.ensures) c.if-not-part_good-3.false-raw),
    ) (rw c.end-3.ensures at c.part_good-4.ensures)
