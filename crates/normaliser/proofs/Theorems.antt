-- What is proved of the normaliser, stated in full. The proofs are short; what carries them is in the files that are cited.
use Prim.Native.Nat.{ℕ, ◌≤◌, ◌<◌}
use mathlib.Core.Path.{◌≡◌, refl, sym, ◌∙◌}
use mathlib.Core.Bool.{true, false}
use mathlib.Core.List.{List, [], ◌∷◌}
use mathlib.Core.Logic.{◌↔◌}
use native.Mathlib.Decide.{dec_lt, ℕ_discrete}
use native.Mathlib.Omega.{arith}
use lib.Dec.{leb, ltb}
use lib.ListN.{length, take}
use borrow.Author.Tests.{ltb-true}
use Rattle.lists.specs.Lists.{elem, every}
use Rattle.lists.specs.Conditions.{Condition, first_failed, numbers_of, number_at, numbers_distinct}
use Rattle.lists.proofs.Conditions.{given_exactly, given_among}
use Rattle.lists.proofs.Every.{every_elem}
use Rattle.answers.specs.Refusals.{image_length, sections, record_count, rule_record, container_record, user_rule, lent_length}
use Rattle.fields.specs.Bytes.{Bytes}
use Rattle.image.specs.Limits.{header_size, output_bound}
use Rattle.image.specs.Image.{policy_in, image_conditions, check_of}
use Rattle.image.specs.Normal.{normal_image}
use Rattle.image.proofs.Theorems.{normal_long, normal_accepted, normal_fixed as normal-again}
use Rattle.normaliser.specs.Normaliser.{normal_conditions, normal_answer, normal_effect}
use Rattle.normaliser.proofs.WrittenAnswers.{through, refused_answer, answer_number, answer_length, answer_front}
use Rattle.normaliser.proofs.NormalCases.{refusal_short, refusal_image}

-- ---- the answer

module _ (i out : List ℕ) where
  abbrev cs : List Condition
  cs = normal_conditions i out

  numbers_good : numbers_distinct (numbers_of cs) ≡ true
  unfolding normal_conditions image_conditions numbers_distinct numbers_of elem
  numbers_good = refl

  -- no number is given but these
  pub normal_among : elem (first_failed cs) (0 ∷ lent_length ∷ image_length ∷ sections ∷ record_count ∷ rule_record ∷ container_record ∷ user_rule ∷ []) ≡ true
  unfolding normal_conditions image_conditions numbers_of
  normal_among = given_among cs

  -- nothing is refused exactly if the output is long enough and the image is accepted
  pub normal_passed : (first_failed cs ≡ 0) ↔ ((output_bound ≤ length out) × (check_of i ≡ 0))
  normal_passed = (to, λ h. refusal_image i out h.0 ∙ h.1)
    where
      to : first_failed cs ≡ 0 → (output_bound ≤ length out) × (check_of i ≡ 0)
      to e = by (dec_lt (length out) output_bound)
        where
          by : Dec (length out < output_bound) → (output_bound ≤ length out) × (check_of i ≡ 0)
          by (yes h) = absurd (omega (arith, refusal_short i out h))
          by (no h) = let l : output_bound ≤ length out = omega arith in (l, sym (refusal_image i out l) ∙ e)

  refusal_small : first_failed cs < header_size
  refusal_small = small (first_failed cs) normal_among
    where
      small : (n : ℕ) → elem n (0 ∷ lent_length ∷ image_length ∷ sections ∷ record_count ∷ rule_record ∷ container_record ∷ user_rule ∷ []) ≡ true → n < header_size
      small n h =
          let numbers : List ℕ = 0 ∷ lent_length ∷ image_length ∷ sections ∷ record_count ∷ rule_record ∷ container_record ∷ user_rule ∷ [] in
          ltb-true n header_size (every_elem (λ k. ltb k header_size) numbers n (unfold every in refl) h)

  module _ (b : Bytes i) where
    -- a refusal number is answered exactly if it is the refusal
    pub normal_number : (n : ℕ) → 0 < n → n < header_size → (normal_answer i out ≡ n) ↔ (first_failed cs ≡ n)
    unfolding normal_answer
    normal_number n p l = by (ℕ_discrete (first_failed cs) 0)
      where
        by : Dec (first_failed cs ≡ 0) → (normal_answer i out ≡ n) ↔ (first_failed cs ≡ n)
        by (yes z) = answer_number (normal_image (policy_in i)) (normal_long i b (normal_passed.0 z).1) (first_failed cs) n p l
        by (no d) = let e = refused_answer (first_failed cs) (normal_image (policy_in i)) out d in ((λ h. sym e ∙ h), (λ h. e ∙ h))

    -- 9 exactly if the output is too short
    pub normal_9 : (normal_answer i out ≡ lent_length) ↔ (leb output_bound (length out) ≡ false)
    unfolding normal_conditions image_conditions number_at numbers_of
    normal_9 = through (normal_number lent_length (omega arith) (omega arith)) (given_exactly cs numbers_good 0 (omega arith))

    -- a length exactly if the output is long enough and the image is accepted
    pub normal_length : (header_size ≤ normal_answer i out) ↔ ((output_bound ≤ length out) × (check_of i ≡ 0))
    unfolding normal_answer
    normal_length = by (ℕ_discrete (first_failed cs) 0)
      where
        by : Dec (first_failed cs ≡ 0) → (header_size ≤ normal_answer i out) ↔ ((output_bound ≤ length out) × (check_of i ≡ 0))
        by (yes z) = through (answer_length (normal_image (policy_in i)) (normal_long i b (normal_passed.0 z).1) (first_failed cs) refusal_small) normal_passed
        by (no d) = (
          (λ h. absurd (omega (arith, h, refused_answer (first_failed cs) (normal_image (policy_in i)) out d, refusal_small))),
          (λ h. absurd (d (normal_passed.1 h))),
        )

  -- ---- what the normaliser leaves

  -- the front of the output IS the normal image
  pub normal_written : output_bound ≤ length out → check_of i ≡ 0 → take (normal_answer i out) (normal_effect i out) ≡ normal_image (policy_in i)
  unfolding normal_answer normal_effect
  normal_written l e = answer_front (first_failed cs) (normal_image (policy_in i)) out (normal_passed.1 (l, e))

-- normalised again, it is the same bytes
pub normal_fixed : (i out out' : List ℕ) → Bytes i → output_bound ≤ length out → output_bound ≤ length out' → check_of i ≡ 0
    → take (normal_answer (take (normal_answer i out) (normal_effect i out)) out') (normal_effect (take (normal_answer i out) (normal_effect i out)) out')
    ≡ take (normal_answer i out) (normal_effect i out)
normal_fixed i out out' b l l' e =
    let w : take (normal_answer i out) (normal_effect i out) ≡ normal_image (policy_in i) = normal_written i out l e in
    rw w (normal_written (normal_image (policy_in i)) out' l' (normal_accepted i b e) ∙ normal-again i b e)
