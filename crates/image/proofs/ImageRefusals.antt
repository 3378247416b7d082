-- An image is refused by a number exactly when its condition is the first to fail; Theorems spells this out for each number.
use Prim.Native.Nat.{ℕ, ◌≤◌, ◌<◌}
use mathlib.Core.Path.{◌≡◌, refl}
use mathlib.Core.Bool.{true, false}
use mathlib.Core.List.{List}
use mathlib.Core.Logic.{◌↔◌}
use lib.ListN.{length}
use borrow.Author.Tests.{lt-leb, le-leb}
use Rattle.lists.proofs.Bools.{and_in}
use Rattle.image.specs.Limits.{header_size, image_limit}
use Rattle.lists.specs.Lists.{elem}
use Rattle.lists.specs.Conditions.{FailsFirst, AllHold, numbers_of, number_at, numbers_distinct}
use Rattle.lists.proofs.Conditions.{given_exactly, given_none}
use Rattle.image.specs.Image.{image_length_good, image_conditions, check_of}

module _ (i : List ℕ) where
  pub image_numbers : numbers_distinct (numbers_of (image_conditions i)) ≡ true
  unfolding image_conditions numbers_of numbers_distinct elem
  image_numbers = refl

  -- by the condition at place k
  pub refused_at : (k : ℕ) → k < length (image_conditions i) → (check_of i ≡ number_at (image_conditions i) k) ↔ FailsFirst (image_conditions i) k
  unfolding check_of
  refused_at = given_exactly (image_conditions i) image_numbers

  pub refused_by_none : (check_of i ≡ 0) ↔ AllHold (image_conditions i)
  unfolding check_of
  refused_by_none = given_none (image_conditions i) image_numbers

-- ---- the length, one test after the other

pub too_short : (i : List ℕ) → length i < header_size → image_length_good i ≡ false
unfolding image_length_good
too_short i h = rw (lt-leb header_size (length i) h)

pub too_long : (i : List ℕ) → header_size ≤ length i → image_limit < length i → image_length_good i ≡ false
unfolding image_length_good
too_long i k h = rw (le-leb header_size (length i) k, lt-leb (length i) image_limit h)

pub long_enough : (i : List ℕ) → header_size ≤ length i → length i ≤ image_limit → image_length_good i ≡ true
unfolding image_length_good
long_enough i k h = and_in (le-leb header_size (length i) k) (le-leb (length i) image_limit h)
