-- The same bytes by the union of their differences, and an image with itself by the normaliser.
use Prim.Native.Nat.{ℕ, zero, suc, ◌+◌, ◌≤◌, ◌<◌}
use mathlib.Core.Path.{◌≡◌, refl, sym, ap, ap₂, ◌∙◌}
use mathlib.Core.Bool.{Bool, true, false, ◌&&◌}
use mathlib.Core.List.{List, [], ◌∷◌}
use mathlib.Core.Logic.{◌⊎◌, inl, inr, ◌≢◌}
use native.Mathlib.Decide.{dec_lt}
use native.Mathlib.Omega.{arith}
use lib.Bits.{bit_or, bit_xor, xor_add_and, xor_self, and_le_l, and_le_r}
use lib.Dec.{eqb}
use lib.ListN.{length, get_or, drop}
use borrow.Author.Tests.{eqb-true, eq-eqb}
use Rattle.lists.specs.Lists.{same_list}
use Rattle.lists.proofs.Bools.{and_0, and_1, same_test}
use Rattle.lists.proofs.Conditions.{zero_or_not}
use Rattle.lists.proofs.Same.{same_eq}
use Rattle.fields.specs.Bytes.{Bytes}
use Rattle.fields.specs.Writing.{overwritten}
use Rattle.rule_words.specs.Words.{all_zero}
use Rattle.rule_words.proofs.ZeroLaws.{zero_next, zero_ended}
use Rattle.image.specs.Limits.{output_bound}
use Rattle.image.specs.Image.{policy_in, check_of}
use Rattle.image.specs.Normal.{normal_image}
use Rattle.normaliser.specs.Normaliser.{length_unless, written_unless, normal_answer, normal_effect, normal_refusal, written_number}
use Rattle.normaliser.proofs.NormalCases.{refusal_short, refusal_image}
use Rattle.std.proofs.Common.{Result, Ok, Err}
use Rattle.answers.specs.declared.Refusal.{Refusal}
use Rattle.answers.specs.Outcomes.{refusal_number, outcome_number}
use Rattle.answers.proofs.Outcomes.{refusal_number_positive}
use Rattle.composition.specs.Composed.{consent_good}
use Rattle.composition.specs.Images.{composed_image, composition_of, answer_unless, compose_answer, compose_effect}
use Rattle.composition.proofs.ComposeCases.{refused_as}
use Rattle.composition.proofs.ImageLaws as images

-- ---- differences

unfoldable pub differences : List ℕ → List ℕ → List ℕ
differences [] b = []
differences (x ∷ a) [] = []
differences (x ∷ a) (y ∷ b) = bit_xor x y ∷ differences a b

differences_long : (a b : List ℕ) → length a ≡ length b → length (differences a b) ≡ length a
unfolding differences
differences_long [] b e = refl
differences_long (x ∷ a) [] e = absurd (omega arith)
differences_long (x ∷ a) (y ∷ b) e = ap suc (differences_long a b (omega arith))

difference_at : (a b : List ℕ) (i : ℕ) → i < length a → length a ≡ length b → get_or (differences a b) i 0 ≡ bit_xor (get_or a i 0) (get_or b i 0)
unfolding differences
difference_at [] b i l e = absurd (omega arith)
difference_at (x ∷ a) [] i l e = absurd (omega arith)
difference_at (x ∷ a) (y ∷ b) zero l e = refl
difference_at (x ∷ a) (y ∷ b) (suc i) l e = difference_at a b i (omega arith) (omega arith)

no_difference : (x y : ℕ) → eqb (bit_xor x y) 0 ≡ eqb x y
no_difference x y =
    same_test (eqb (bit_xor x y) 0) (eqb x y)
    (λ h. eq-eqb x y (omega (arith, eqb-true (bit_xor x y) 0 h, xor_add_and x y, and_le_l x y, and_le_r x y)))
    (λ h. eq-eqb (bit_xor x y) 0 (ap (bit_xor x) (sym (eqb-true x y h)) ∙ xor_self x))

differences_same : (a b : List ℕ) → length a ≡ length b → all_zero (differences a b) ≡ same_list a b
unfolding all_zero differences same_list
differences_same [] [] e = refl
differences_same [] (y ∷ b) e = absurd (omega arith)
differences_same (x ∷ a) [] e = absurd (omega arith)
differences_same (x ∷ a) (y ∷ b) e = ap₂ (λ (p q : Bool). p && q) (no_difference x y) (differences_same a b (omega arith))

-- all is the union of the differences of the first i bytes
pub record Uniting (a b : List ℕ) (all i : ℕ) : Type 0 where
  pub even : length a ≡ length b
  pub place : i ≤ length a
  pub rest : (eqb all 0 && all_zero (drop i (differences a b))) ≡ all_zero (differences a b)

pub uniting_start : (a b : List ℕ) → length a ≡ length b → Uniting a b 0 0
uniting_start a b e = record { even = e; place = omega arith; rest = refl }

pub uniting_next : (a b : List ℕ) (all i : ℕ) → Uniting a b all i → i < length a → Uniting a b (bit_or all (bit_xor (get_or a i 0) (get_or b i 0))) (i + 1)
uniting_next a b all i h l =
    record {
      even = h.even;
      place = omega arith;
      rest =
          ap (λ (x : ℕ). eqb (bit_or all x) 0 && all_zero (drop (i + 1) (differences a b))) (sym (difference_at a b i l h.even))
          ∙ zero_next (differences a b) all i h.rest (omega (arith, differences_long a b h.even));
    }

pub uniting_end : (a b : List ℕ) (all i : ℕ) → Uniting a b all i → length a ≤ i → eqb all 0 ≡ same_list a b
uniting_end a b all i h l = zero_ended (differences a b) all i h.rest (omega (arith, differences_long a b h.even)) ∙ differences_same a b h.even

-- ---- the normaliser's answer

module _ (a consent out : List ℕ) (bytes : Bytes a) (good : consent_good consent ≡ true) where
  -- an image with itself is refused as the normaliser refuses it
  same_refusal : images.compose_refusal a a consent out ≡ normal_refusal a out
  same_refusal = at (dec_lt (length out) output_bound)
    where
      check : output_bound ≤ length out → (check_of a ≡ 0) ⊎ (check_of a ≢ 0) → images.compose_refusal a a consent out ≡ normal_refusal a out
      check l (inl e) = images.refusal_none a a consent out l e e (images.self_input a consent bytes e good) (images.self_limit a consent bytes e) ∙ sym (refusal_image a out l ∙ e)
      check l (inr d) = images.refusal_first a a consent out l d ∙ sym (refusal_image a out l)

      at : Dec (length out < output_bound) → images.compose_refusal a a consent out ≡ normal_refusal a out
      at (yes l) = images.refusal_short a a consent out l ∙ sym (refusal_short a out l)
      at (no l) = check (omega arith) (zero_or_not (check_of a))

  accepted : normal_refusal a out ≡ 0 → check_of a ≡ 0
  accepted z = at (dec_lt (length out) output_bound)
    where
      at : Dec (length out < output_bound) → check_of a ≡ 0
      at (yes l) = absurd (omega (arith, refusal_short a out l))
      at (no l) = sym (refusal_image a out (omega arith)) ∙ z

  image_same : normal_refusal a out ≡ 0 → composed_image a a consent ≡ normal_image (policy_in a)
  image_same z = images.self_image a consent bytes (accepted z)

  answer_told : (r : Result ℕ Refusal) → written_number r ≡ normal_answer a out → outcome_number r ≡ normal_refusal a out
      → composition_of r ≡ answer_unless (normal_refusal a out) (composed_image a a consent)
  unfolding answer_unless normal_answer length_unless
  answer_told (Ok n) e f =
      let l : n ≡ length (normal_image (policy_in a)) = e ∙ ap (λ (k : ℕ). length_unless k (normal_image (policy_in a))) (sym f) in
      ap (λ (k : ℕ). record { refusal = 0; length = k }) (l ∙ ap length (sym (image_same (sym f))))
      ∙ ap (λ (k : ℕ). answer_unless k (composed_image a a consent)) f
  answer_told (Err r) e f =
      sym (refused_as (refusal_number r) (composed_image a a consent) (λ z. omega (arith, refusal_number_positive r)))
      ∙ ap (λ (k : ℕ). answer_unless k (composed_image a a consent)) f

  effect_same : (n : ℕ) → normal_refusal a out ≡ n → written_unless n (composed_image a a consent) out ≡ written_unless n (normal_image (policy_in a)) out
  unfolding written_unless
  effect_same zero z = ap (λ (s : List ℕ). overwritten s 0 out) (image_same z)
  effect_same (suc n) z = refl

  pub repeat_is : (b : List ℕ) → a ≡ b → (r : Result ℕ Refusal) {after : List ℕ}
      → (written_number r ≡ normal_answer a out) × (after ≡ normal_effect a out) × (outcome_number r ≡ normal_refusal a out)
      → (composition_of r ≡ compose_answer a b consent out) × (after ≡ compose_effect a b consent out)
  unfolding normal_effect compose_answer compose_effect
  repeat_is b e r h = (
    answer_told r h.0 h.2 ∙ ap (λ (n : ℕ). answer_unless n (composed_image a a consent)) (sym same_refusal)
        ∙ ap (λ (x : List ℕ). answer_unless (images.compose_refusal a x consent out) (composed_image a x consent)) e,
    h.1 ∙ sym (effect_same (normal_refusal a out) refl) ∙ ap (λ (n : ℕ). written_unless n (composed_image a a consent) out) (sym same_refusal)
        ∙ ap (λ (x : List ℕ). written_unless (images.compose_refusal a x consent out) (composed_image a x consent) out) e,
  )

-- ---- the test

pub not_repeated : (a b consent : List ℕ) → consent_good consent ≡ false → false ≡ (consent_good consent && same_list a b)
not_repeated a b consent h = sym (rw h)

pub repeated_if : (a b consent : List ℕ) → consent_good consent ≡ true → {r : Bool} → r ≡ same_list a b → r ≡ (consent_good consent && same_list a b)
repeated_if a b consent h e = e ∙ sym (rw h)

-- what it tells
pub repeated : (a b consent : List ℕ) {r : Bool} → r ≡ (consent_good consent && same_list a b) → r ≡ true → (consent_good consent ≡ true) × (a ≡ b)
repeated a b consent e t = (and_0 (consent_good consent) (same_list a b) (sym e ∙ t), same_eq a b (and_1 (consent_good consent) (sym e ∙ t)))
