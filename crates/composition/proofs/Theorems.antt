-- What is proved of two images composed, stated in full. The proofs are short; what carries them is in the files that are cited.
use Prim.Native.Nat.{ℕ, zero, suc, ◌+◌, ◌≤◌, ◌<◌}
use mathlib.Core.Path.{◌≡◌, refl, sym, ap, ◌∙◌}
use mathlib.Core.Bool.{true, false}
use mathlib.Core.List.{List}
use mathlib.Core.Logic.{◌⊎◌, inl, inr, ◌↔◌, ◌≢◌}
use native.Mathlib.Decide.{dec_lt, ℕ_discrete}
use native.Mathlib.Omega.{arith}
use lib.ListN.{length, get_or}
use Rattle.lists.proofs.Bools.{decide, and_0}
use Rattle.lists.proofs.Conditions.{zero_or_not}
use Rattle.answers.specs.Refusals.{user_rule, lent_length, composition_input, composition_limit}
use Rattle.fields.specs.Bytes.{Bytes}
use Rattle.fields.specs.Writing.{overwritten}
use Rattle.rules.specs.Sets.{atom}
use Rattle.rules.specs.Rules.{covers, normal}
use Rattle.rules.specs.Order.{Within}
use Rattle.rules.specs.Answers.{data_width, tag_width}
use Rattle.image.specs.Limits.{output_bound, no_owner}
use Rattle.image.specs.Policy.{unrestricted_rule}
use Rattle.image.specs.Image.{policy_in, check_of}
use Rattle.image.specs.Normal.{owned, uses, normal_image}
use Rattle.normaliser.specs.Normaliser.{written_unless}
use Rattle.composition.specs.Composed.{consent_good, consenting, composed_rule, composed_owner, composed_uses}
use Rattle.composition.specs.Images.{same_shape, composed, composed_image, input_good, limit_good, answer_unless, compose_answer, compose_effect}
use Rattle.composition.proofs.ComposedLaws as laws
use Rattle.composition.proofs.ConsentLaws as consent-laws
use Rattle.composition.proofs.UseLaws.{owned_uses}
use Rattle.composition.proofs.ImageLaws as images

-- ---- CONSENT: byte k speaks for data atom k and for its twin

module _ (consent : List ℕ) (good : consent_good consent ≡ true) (k : ℕ) (l : k < data_width) where
  pub consents : (atom (consenting consent) k ≡ get_or consent k 0) × (atom (consenting consent) (data_width + k) ≡ get_or consent k 0)
  consents = (consent-laws.consents_data consent good k l, consent-laws.consents_twin consent good k l)

-- ---- A RULE

module _ (c : ℕ) (r s : List ℕ) where
  -- the same after exchange
  pub rule_exchange : composed_rule c r s ≡ composed_rule c s r
  rule_exchange = laws.composed_comm c r s

  -- a rule with itself gives its normal form
  pub rule_self : composed_rule c r r ≡ normal r
  rule_self = laws.composed_self c r

  -- SOUND: what the composed rule covers both cover, or one covers by a mixture of its normal form that wholly consents
  pub rule_sound : (t : ℕ) → covers (composed_rule c r s) t ≡ true
      → ((covers r t ≡ true) × (covers s t ≡ true)) ⊎ (laws.Consented c r t ⊎ laws.Consented c s t)
  rule_sound t h = laws.composed_sound c r s t h

  -- and such a mixture is covered
  pub rule_consented : (t : ℕ) → laws.Consented c r t → covers (composed_rule c r s) t ≡ true
  rule_consented t k = laws.composed_consented c r s t k

-- the unrestricted rule is neutral where one owner does not consent
pub rule_unrestricted : (consent r : List ℕ) → consent_good consent ≡ true → (k : ℕ) → k < data_width → get_or consent k 0 ≡ 0 → Within tag_width r
    → composed_rule (consenting consent) unrestricted_rule r ≡ normal r
rule_unrestricted consent r good k l z w = laws.composed_unrestricted (consenting consent) r w (consent-laws.consents_partly consent good k l z)

-- an owner stays where both agree, else there is none
pub owner_stays : (a b : ℕ) → ((a ≡ b) × (composed_owner a b ≡ a)) ⊎ ((a ≢ b) × (composed_owner a b ≡ no_owner))
owner_stays a b = by (ℕ_discrete a b)
  where
    by : Dec (a ≡ b) → ((a ≡ b) × (composed_owner a b ≡ a)) ⊎ ((a ≢ b) × (composed_owner a b ≡ no_owner))
    by (yes e) = inl (e, laws.owner_same a b e)
    by (no d) = inr (d, laws.owner_other a b d)

-- ---- EXCHANGE: of two accepted images, the same answer, refusals 9, 20 and 21 too, and the same bytes

pub compose_exchange : (a b consent out : List ℕ) → check_of a ≡ 0 → check_of b ≡ 0
    → (compose_answer a b consent out ≡ compose_answer b a consent out) × (compose_effect a b consent out ≡ compose_effect b a consent out)
compose_exchange a b consent out h g = images.exchange a b consent out h g

-- ---- REFUSALS: each number exactly under its condition, although 1 to 6 stand for two images

module _ (a b consent out : List ℕ) where
  abbrev refusal : ℕ
  refusal = images.compose_refusal a b consent out

  -- the answer's number is the first condition that fails
  pub answer_refusal : (compose_answer a b consent out).refusal ≡ refusal
  unfolding compose_answer
  answer_refusal = by refusal
    where
      by : (n : ℕ) → (answer_unless n (composed_image a b consent)).refusal ≡ n
      by zero = unfold answer_unless in refl
      by (suc n) = unfold answer_unless in refl

  cases : {X : Type 0} → (length out < output_bound → X) → (output_bound ≤ length out → check_of a ≢ 0 → X) → (output_bound ≤ length out → check_of a ≡ 0 → check_of b ≢ 0 → X)
      → (output_bound ≤ length out → check_of a ≡ 0 → check_of b ≡ 0 → input_good a b consent ≡ false → X)
      → (output_bound ≤ length out → check_of a ≡ 0 → check_of b ≡ 0 → input_good a b consent ≡ true → limit_good (composed a b consent) ≡ false → X)
      → (output_bound ≤ length out → check_of a ≡ 0 → check_of b ≡ 0 → input_good a b consent ≡ true → limit_good (composed a b consent) ≡ true → X) → X
  cases {X} f g h i j k = at (dec_lt (length out) output_bound)
    where
      limits : output_bound ≤ length out → check_of a ≡ 0 → check_of b ≡ 0 → input_good a b consent ≡ true
          → (limit_good (composed a b consent) ≡ true) ⊎ (limit_good (composed a b consent) ≡ false) → X
      limits l p q x (inl e) = k l p q x e
      limits l p q x (inr e) = j l p q x e

      inputs : output_bound ≤ length out → check_of a ≡ 0 → check_of b ≡ 0 → (input_good a b consent ≡ true) ⊎ (input_good a b consent ≡ false) → X
      inputs l p q (inl e) = limits l p q e (decide (limit_good (composed a b consent)))
      inputs l p q (inr e) = i l p q e

      second : output_bound ≤ length out → check_of a ≡ 0 → (check_of b ≡ 0) ⊎ (check_of b ≢ 0) → X
      second l p (inl e) = inputs l p e (decide (input_good a b consent))
      second l p (inr e) = h l p e

      first : output_bound ≤ length out → (check_of a ≡ 0) ⊎ (check_of a ≢ 0) → X
      first l (inl e) = second l e (zero_or_not (check_of b))
      first l (inr e) = g l e

      at : Dec (length out < output_bound) → X
      at (yes l) = f l
      at (no l) = first (omega arith) (zero_or_not (check_of a))

  -- 9 exactly if the output is too short
  pub compose_9 : (refusal ≡ lent_length) ↔ (length out < output_bound)
  compose_9 = (to, images.refusal_short a b consent out)
    where
      to : refusal ≡ lent_length → length out < output_bound
      to e =
          cases (λ l. l) (λ l p. absurd (omega (arith, images.refusal_first a b consent out l p, images.check_small a)))
          (λ l p q. absurd (omega (arith, images.refusal_second a b consent out l p q, images.check_small b)))
          (λ l p q x. absurd (omega (arith, images.refusal_input a b consent out l p q x))) (λ l p q x y. absurd (omega (arith, images.refusal_limit a b consent out l p q x y)))
          (λ l p q x y. absurd (omega (arith, images.refusal_none a b consent out l p q x y)))

  -- 1 to 6 exactly if the first image is refused so, or it is accepted and the second is
  pub compose_image : (n : ℕ) → 0 < n → n ≤ user_rule → (refusal ≡ n) ↔ ((output_bound ≤ length out) × ((check_of a ≡ n) ⊎ ((check_of a ≡ 0) × (check_of b ≡ n))))
  compose_image n p m = (to, λ h. from h.0 h.1)
    where
      to : refusal ≡ n → (output_bound ≤ length out) × ((check_of a ≡ n) ⊎ ((check_of a ≡ 0) × (check_of b ≡ n)))
      to e =
          cases (λ l. absurd (omega (arith, images.refusal_short a b consent out l))) (λ l q. (l, inl (sym (images.refusal_first a b consent out l q) ∙ e)))
          (λ l q r. (l, inr (q, sym (images.refusal_second a b consent out l q r) ∙ e))) (λ l q r x. absurd (omega (arith, images.refusal_input a b consent out l q r x)))
          (λ l q r x y. absurd (omega (arith, images.refusal_limit a b consent out l q r x y))) (λ l q r x y. absurd (omega (arith, images.refusal_none a b consent out l q r x y)))

      from : output_bound ≤ length out → (check_of a ≡ n) ⊎ ((check_of a ≡ 0) × (check_of b ≡ n)) → refusal ≡ n
      from l (inl e) = images.refusal_first a b consent out l (λ z. omega arith) ∙ e
      from l (inr e) = images.refusal_second a b consent out l e.0 (λ z. omega (arith, e.1)) ∙ e.1

  -- 20 exactly if both are accepted, and the shapes differ or the consent is not 32 bytes of 0 and 1
  pub compose_20 : (refusal ≡ composition_input) ↔ ((output_bound ≤ length out) × (check_of a ≡ 0) × (check_of b ≡ 0) × (input_good a b consent ≡ false))
  compose_20 = (to, λ h. images.refusal_input a b consent out h.0 h.1 h.2 h.3)
    where
      to : refusal ≡ composition_input → (output_bound ≤ length out) × (check_of a ≡ 0) × (check_of b ≡ 0) × (input_good a b consent ≡ false)
      to e =
          cases (λ l. absurd (omega (arith, images.refusal_short a b consent out l))) (λ l p. absurd (omega (arith, images.refusal_first a b consent out l p, images.check_small a)))
          (λ l p q. absurd (omega (arith, images.refusal_second a b consent out l p q, images.check_small b))) (λ l p q x. (l, p, q, x))
          (λ l p q x y. absurd (omega (arith, images.refusal_limit a b consent out l p q x y))) (λ l p q x y. absurd (omega (arith, images.refusal_none a b consent out l p q x y)))

  -- 21 exactly if they can be composed, and a place has over 8 mixtures or over 256 rules are needed
  pub compose_21 : (refusal ≡ composition_limit) ↔ ((output_bound ≤ length out) × (check_of a ≡ 0) × (check_of b ≡ 0) × (input_good a b consent ≡ true) × (limit_good (composed a b consent) ≡ false))
  compose_21 = (to, λ h. images.refusal_limit a b consent out h.0 h.1 h.2 h.3 h.4)
    where
      to : refusal ≡ composition_limit → (output_bound ≤ length out) × (check_of a ≡ 0) × (check_of b ≡ 0) × (input_good a b consent ≡ true) × (limit_good (composed a b consent) ≡ false)
      to e =
          cases (λ l. absurd (omega (arith, images.refusal_short a b consent out l))) (λ l p. absurd (omega (arith, images.refusal_first a b consent out l p, images.check_small a)))
          (λ l p q. absurd (omega (arith, images.refusal_second a b consent out l p q, images.check_small b))) (λ l p q x. absurd (omega (arith, images.refusal_input a b consent out l p q x)))
          (λ l p q x y. (l, p, q, x, y)) (λ l p q x y. absurd (omega (arith, images.refusal_none a b consent out l p q x y)))

  -- nothing is refused exactly if none of these holds
  pub compose_passed : (refusal ≡ 0) ↔ ((output_bound ≤ length out) × (check_of a ≡ 0) × (check_of b ≡ 0) × (input_good a b consent ≡ true) × (limit_good (composed a b consent) ≡ true))
  compose_passed = (to, λ h. images.refusal_none a b consent out h.0 h.1 h.2 h.3 h.4)
    where
      to : refusal ≡ 0 → (output_bound ≤ length out) × (check_of a ≡ 0) × (check_of b ≡ 0) × (input_good a b consent ≡ true) × (limit_good (composed a b consent) ≡ true)
      to e =
          cases (λ l. absurd (omega (arith, images.refusal_short a b consent out l))) (λ l p. absurd (p (sym (images.refusal_first a b consent out l p) ∙ e)))
          (λ l p q. absurd (q (sym (images.refusal_second a b consent out l p q) ∙ e))) (λ l p q x. absurd (omega (arith, images.refusal_input a b consent out l p q x)))
          (λ l p q x y. absurd (omega (arith, images.refusal_limit a b consent out l p q x y))) (λ l p q x y. (l, p, q, x, y))

  -- no other number is given
  pub compose_among : (refusal ≤ user_rule) ⊎ ((refusal ≡ lent_length) ⊎ ((refusal ≡ composition_input) ⊎ (refusal ≡ composition_limit)))
  compose_among =
      cases (λ l. inr (inl (images.refusal_short a b consent out l))) (λ l p. inl (omega (arith, images.refusal_first a b consent out l p, images.check_small a)))
      (λ l p q. inl (omega (arith, images.refusal_second a b consent out l p q, images.check_small b))) (λ l p q x. inr (inr (inl (images.refusal_input a b consent out l p q x))))
      (λ l p q x y. inr (inr (inr (images.refusal_limit a b consent out l p q x y)))) (λ l p q x y. inl (omega (arith, images.refusal_none a b consent out l p q x y)))

  -- ---- WHAT IS WRITTEN

  module _ (ba : Bytes a) (bb : Bytes b) (e : refusal ≡ 0) where
    shape : same_shape (policy_in a) (policy_in b) ≡ true
    shape = unfold input_good in (and_0 (same_shape (policy_in a) (policy_in b)) (consent_good consent) (compose_passed.0 e).3)

    -- the image is accepted, its own normal image, and the output holds it
    pub composed_accepted : (check_of (composed_image a b consent) ≡ 0) × (normal_image (policy_in (composed_image a b consent)) ≡ composed_image a b consent)
        × (length (composed_image a b consent) ≤ output_bound)
    unfolding composed_image composed
    composed_accepted =
        let h = compose_passed.0 e in (
          (images.both_read (consenting consent) a b ba bb h.1 h.2 shape h.4).0,
          images.both_fixed (consenting consent) a b ba bb h.1 h.2 shape h.4,
          images.both_short (consenting consent) a b ba bb h.1 h.2 shape h.4,
        )

    -- it owns at each place and for each user what the two own there, composed
    pub composed_owned : owned (policy_in (composed_image a b consent)) ≡ composed a b consent
    unfolding composed_image composed
    composed_owned = let h = compose_passed.0 e in images.both_owns (consenting consent) a b ba bb h.1 h.2 shape h.4

    pub composed_uses_lem : uses (owned (policy_in (composed_image a b consent))) ≡ composed_uses (consenting consent) (uses (owned (policy_in a))) (uses (owned (policy_in b)))
    composed_uses_lem =
        ap uses composed_owned ∙ unfold composed in (owned_uses (consenting consent) (owned (policy_in a)) (owned (policy_in b)) (images.matched (policy_in a) (policy_in b) shape))

    -- the front of the output is the image, of the length that is answered
    pub composed_written : ((compose_answer a b consent out).length ≡ length (composed_image a b consent)) × (compose_effect a b consent out ≡ overwritten (composed_image a b consent) 0 out)
    unfolding compose_answer compose_effect answer_unless written_unless
    composed_written = (ap (λ (n : ℕ). (answer_unless n (composed_image a b consent)).length) e, ap (λ (n : ℕ). written_unless n (composed_image a b consent) out) e)

-- ---- AN IMAGE WITH ITSELF gives its normal image

pub compose_self : (a consent out : List ℕ) → Bytes a → check_of a ≡ 0 → consent_good consent ≡ true → output_bound ≤ length out
    → (compose_answer a a consent out ≡ record { refusal = 0; length = length (normal_image (policy_in a)) }) × (compose_effect a a consent out ≡ overwritten (normal_image (policy_in a)) 0 out)
unfolding compose_answer compose_effect answer_unless written_unless
compose_self a consent out bytes e good long =
    let z : images.compose_refusal a a consent out ≡ 0 = images.refusal_none a a consent out long e e (images.self_input a consent bytes e good) (images.self_limit a consent bytes e) in
    let i : composed_image a a consent ≡ normal_image (policy_in a) = images.self_image a consent bytes e in (
      ap (λ (n : ℕ). answer_unless n (composed_image a a consent)) z ∙ ap (λ (s : List ℕ). record { refusal = 0; length = length s }) i,
      ap (λ (n : ℕ). written_unless n (composed_image a a consent) out) z ∙ ap (λ (s : List ℕ). overwritten s 0 out) i,
    )
