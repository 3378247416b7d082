-- What the start answers: 9 before the image is looked at, then what the image is refused by.
use Prim.Native.Nat.{ℕ}
use native.Mathlib.Omega.{arith}
use mathlib.Core.Path.{◌≡◌, refl, sym, ◌∙◌}
use mathlib.Core.Bool.{true, false}
use mathlib.Core.List.{List}
use mathlib.Core.Logic.{◌⊎◌, inl, inr, ◌↔◌, ◌≢◌}
use lib.ListN.{length}
use borrow.Author.Tests.{eq-eqb, eqb-true}
use Rattle.lists.specs.Lists.{elem}
use Rattle.lists.specs.Conditions.{◌or_refuse◌, numbers_of, number_at, numbers_distinct}
use Rattle.lists.proofs.Bools.{decide}
use Rattle.lists.proofs.Conditions as conditions
use Rattle.answers.specs.Refusals.{lent_length}
use Rattle.image.specs.Image.{image_conditions, check_of}
use Rattle.session.specs.Limits.{session_length}
use Rattle.session.specs.Session.{session_length_good, start_conditions, start_answer}

pub length_good : (s : List ℕ) → (session_length_good s ≡ true) ↔ (length s ≡ session_length)
unfolding session_length_good
length_good s = (eqb-true (length s) session_length, eq-eqb (length s) session_length)

module _ (i s : List ℕ) where
  start_numbers : numbers_distinct (numbers_of (start_conditions i s)) ≡ true
  unfolding start_conditions image_conditions numbers_of numbers_distinct elem
  start_numbers = refl

  pub refused_9 : (start_answer i s ≡ lent_length) ↔ (session_length_good s ≡ false)
  unfolding start_answer start_conditions number_at numbers_of
  refused_9 = conditions.given_exactly (start_conditions i s) start_numbers 0 (omega arith)

  pub length_passed : session_length_good s ≡ true → start_answer i s ≡ check_of i
  unfolding start_answer start_conditions check_of
  length_passed h = conditions.passed (session_length_good s or_refuse lent_length) (image_conditions i) h

  -- any other number, 0 too, is the image's
  pub given_by_image : (n : ℕ) → n ≢ lent_length → (start_answer i s ≡ n) ↔ ((session_length_good s ≡ true) × (check_of i ≡ n))
  given_by_image n d = (λ e. by e (decide (session_length_good s)), λ h. length_passed h.0 ∙ h.1)
    where
      by : start_answer i s ≡ n → (session_length_good s ≡ true) ⊎ (session_length_good s ≡ false) → (session_length_good s ≡ true) × (check_of i ≡ n)
      by e (inl h) = (h, sym (length_passed h) ∙ e)
      by e (inr h) = absurd (d (sym e ∙ refused_9.1 h))
