-- The cases of `compose`: a short output, a refused image, an input that is not good, and two images that go to the writer.
use Prim.Native.Nat.{ℕ, zero, suc, ◌/◌, ◌≤◌, ◌<◌}
use mathlib.Core.Path.{◌≡◌, refl, sym, ap, ◌∙◌}
use mathlib.Core.Bool.{Bool, true, false, cond}
use mathlib.Core.List.{List}
use native.Mathlib.Omega.{arith}
use lib.Dec.{eqb}
use lib.ListN.{length}
use Rattle.lists.proofs.Bools.{and_0, and_1}
use Rattle.answers.specs.Refusals.{lent_length, composition_input}
use Rattle.fields.specs.Bytes.{bytes_of}
use Rattle.fields.specs.Writing.{overwritten}
use Rattle.image.specs.Limits.{output_bound, user_size}
use Rattle.image.specs.Image.{part, containers_in, policy_in, check_of}
use Rattle.image.specs.Policy.{Policy}
use Rattle.image.specs.Normal.{policy_of, encode, framed, header}
use Rattle.image.proofs.RecordsByPlace.{users_count}
use Rattle.normaliser.specs.Normaliser.{written_unless}
use Rattle.normaliser.proofs.WrittenAnswers.{refused_effect}
use Rattle.std.proofs.Common.{Option, Some, None}
use Rattle.std.specs.Option.{ok_or}
use Rattle.answers.specs.declared.Refusal.TheVariants as V
use Rattle.composition.specs.Composed.{consent_good, consenting}
use Rattle.composition.specs.Images.{same_containers, same_shape, composed, composed_image, input_good, limit_good, Composition, composition_of, answer_unless, compose_answer, compose_effect}
use Rattle.composition.specs.Tables.{Paired, pair_owned, PairWritten}
use Rattle.composition.proofs.ImageLaws.{compose_refusal, refusal_short, refusal_first, refusal_second, refusal_input, refusal_limit, refusal_none}

-- ---- the shape of two images

module _ (a b : List ℕ) where
  pub shape_not : same_containers (containers_in (part a 0)) (containers_in (part b 0)) ≡ false → false ≡ same_shape (policy_in a) (policy_in b)
  unfolding same_shape policy_in
  shape_not h = sym (rw h)

  pub shape_if : same_containers (containers_in (part a 0)) (containers_in (part b 0)) ≡ true
      → eqb (length (part a 1) / user_size) (length (part b 1) / user_size) ≡ same_shape (policy_in a) (policy_in b)
  unfolding same_shape policy_in
  shape_if h = sym (rw (h, users_count (part a 1), users_count (part b 1)))

  pub input_not : (consent : List ℕ) → same_shape (policy_in a) (policy_in b) ≡ false → false ≡ input_good a b consent
  unfolding input_good
  input_not consent h = sym (rw h)

  pub input_if : (consent : List ℕ) → same_shape (policy_in a) (policy_in b) ≡ true → {r : Bool} → r ≡ consent_good consent → r ≡ input_good a b consent
  unfolding input_good
  input_if consent h e = e ∙ sym (rw h)

  -- what a good input gives
  pub paired : (consent : List ℕ) → check_of a ≡ 0 → check_of b ≡ 0 → input_good a b consent ≡ true → Paired a b
  unfolding input_good
  paired consent p q h = record { first = p; second = q; shape = and_0 (same_shape (policy_in a) (policy_in b)) (consent_good consent) h }

  pub consent_given : (consent : List ℕ) → input_good a b consent ≡ true → consent_good consent ≡ true
  unfolding input_good
  consent_given consent h = and_1 (same_shape (policy_in a) (policy_in b)) h

-- ---- the answer

pub refused_as : (n : ℕ) (s : List ℕ) → (n ≡ 0 → ⊥) → answer_unless n s ≡ record { refusal = n; length = 0 }
unfolding answer_unless
refused_as zero s d = absurd (d refl)
refused_as (suc n) s d = refl

module _ (a b consent out : List ℕ) where
  refused : {r : ℕ} → compose_refusal a b consent out ≡ r → (r ≡ 0 → ⊥)
      → (◌≡◌ {A = Composition} (record { refusal = r; length = 0 }) (compose_answer a b consent out)) × (out ≡ compose_effect a b consent out)
  unfolding compose_answer compose_effect
  refused {r} e d = (
    sym (ap (λ (n : ℕ). answer_unless n (composed_image a b consent)) e ∙ refused_as r (composed_image a b consent) d),
    sym (refused_effect (compose_refusal a b consent out) (composed_image a b consent) out (λ z. d (sym e ∙ z))),
  )

  -- 9
  pub case_short : length out < output_bound → (◌≡◌ {A = Composition} (record { refusal = lent_length; length = 0 }) (compose_answer a b consent out)) × (out ≡ compose_effect a b consent out)
  case_short l = refused (refusal_short a b consent out l) (λ z. omega arith)

  module _ (long : output_bound ≤ length out) where
    -- the first image
    pub case_first : {r : ℕ} → r ≡ check_of a → (r ≡ 0 → ⊥) → (◌≡◌ {A = Composition} (record { refusal = r; length = 0 }) (compose_answer a b consent out)) × (out ≡ compose_effect a b consent out)
    case_first e d = refused (refusal_first a b consent out long (λ z. d (e ∙ z)) ∙ sym e) d

    module _ (first : check_of a ≡ 0) where
      -- the second
      pub case_second : {r : ℕ} → r ≡ check_of b → (r ≡ 0 → ⊥) → (◌≡◌ {A = Composition} (record { refusal = r; length = 0 }) (compose_answer a b consent out)) × (out ≡ compose_effect a b consent out)
      case_second e d = refused (refusal_second a b consent out long first (λ z. d (e ∙ z)) ∙ sym e) d

      module _ (second : check_of b ≡ 0) where
        -- 20
        pub case_input : input_good a b consent ≡ false
            → (◌≡◌ {A = Composition} (record { refusal = composition_input; length = 0 }) (compose_answer a b consent out))
            × (out ≡ compose_effect a b consent out)
        case_input h = refused (refusal_input a b consent out long first second h) (λ z. omega arith)

        module _ (input : input_good a b consent ≡ true) {c : ℕ} {after : List ℕ} {r : Option ℕ} (e : c ≡ consenting consent) (w : PairWritten (pair_owned c a b) out after r) where
          same_owned : pair_owned c a b ≡ composed a b consent
          unfolding pair_owned composed
          same_owned = ap (λ (x : ℕ). pair_owned x a b) e

          answer_is : r ≡ cond (limit_good (composed a b consent)) (Some (length (encode (policy_of (composed a b consent))))) None
          answer_is = rw same_owned at w.answer

          effect_is : after ≡ cond (limit_good (composed a b consent)) (overwritten (encode (policy_of (composed a b consent))) 0 out) out
          effect_is = rw same_owned at w.effect

          -- the image is written, or 21
          pub case_written : (composition_of (ok_or r V.CompositionLimit) ≡ compose_answer a b consent out) × (after ≡ compose_effect a b consent out)
          unfolding compose_answer compose_effect answer_unless written_unless composed_image
          case_written = by (limit_good (composed a b consent)) refl
            where
              by : (x : Bool) → limit_good (composed a b consent) ≡ x
                  → (composition_of (ok_or r V.CompositionLimit) ≡ compose_answer a b consent out) × (after ≡ compose_effect a b consent out)
              by true h =
                  let f : compose_refusal a b consent out ≡ 0 = refusal_none a b consent out long first second input h in
                  let l : r ≡ Some (length (encode (policy_of (composed a b consent)))) = rw h at answer_is in
                  let o : after ≡ overwritten (encode (policy_of (composed a b consent))) 0 out = rw h at effect_is in (
                    ap (λ (x : Option ℕ). composition_of (ok_or x V.CompositionLimit)) l ∙ sym (ap (λ (k : ℕ). answer_unless k (encode (policy_of (composed a b consent)))) f),
                    o ∙ sym (ap (λ (k : ℕ). written_unless k (encode (policy_of (composed a b consent))) out) f),
                  )
              by false h =
                  let g = refused (refusal_limit a b consent out long first second input h) (λ y. omega arith) in
                  let l : r ≡ None = rw h at answer_is in
                  let o : after ≡ out = rw h at effect_is in
                  (ap (λ (x : Option ℕ). composition_of (ok_or x V.CompositionLimit)) l ∙ g.0, o ∙ g.1)

-- an image is not empty
pub image_long : (p : Policy) → 0 < length (encode p)
unfolding encode framed header bytes_of
image_long p = omega arith
