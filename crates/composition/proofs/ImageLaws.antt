-- Two images composed: each refusal in its order, the same bytes after exchange, an image with itself, and what is written is accepted.
use Prim.Native.Nat.{ℕ, zero, suc, ◌≤◌, ◌<◌}
use mathlib.Core.Path.{◌≡◌, refl, sym, ap, ap₂, ◌∙◌}
use mathlib.Core.Bool.{Bool, true, false, ◌&&◌}
use mathlib.Core.List.{List, [], ◌∷◌, ◌++◌}
use mathlib.Core.Logic.{◌⊎◌, inl, inr, ◌≢◌}
use native.Mathlib.Decide.{ℕ_discrete}
use native.Mathlib.Omega.{arith}
use lib.Dec.{eqb, leb}
use lib.ListN.{length, length-map}
use borrow.Author.Tests.{eq-eqb, ne_eqb, eqb-true, leb-true, le-leb, lt-leb}
use Rattle.lists.proofs.Bools.{decide, and_in, and_0, and_1}
use Rattle.lists.specs.Conditions.{◌or_refuse◌, first_failed, AllHold, numbers_of, numbers_distinct}
use Rattle.lists.specs.Lists.{elem, every}
use Rattle.lists.proofs.Every.{every_elem}
use Rattle.lists.proofs.Conditions.{passed, failed, none_left, first_stops, first_passed, given_none, given_among}
use Rattle.answers.specs.Refusals.{user_rule, lent_length, composition_input, composition_limit}
use Rattle.fields.specs.Bytes.{Bytes}
use Rattle.image.specs.Limits.{output_bound, header_size}
use Rattle.image.specs.Policy.{Container, Policy, Sound}
use Rattle.image.specs.Image.{policy_in, image_conditions, check_of}
use Rattle.image.specs.Normal.{Owned, use_at, owned, policy_of, normal_policy, encode, normal_image}
use Rattle.image.proofs.Decode.{accepted_sound}
use Rattle.image.proofs.Encode.{read_encode, encode_length, encode_short}
use Rattle.image.proofs.WrittenOwners.{Ownable, owned_ownable, policy_sound, policy_owns}
use Rattle.normaliser.specs.Normaliser.{written_unless}
use Rattle.normaliser.proofs.WriterLaws as writer
use Rattle.composition.specs.Composed.{consent_good, consenting, composed_owned}
use Rattle.composition.specs.Images.{same_containers, same_shape, composed, composed_image, uses_short, rules_few, input_good}
use Rattle.composition.specs.Images.{limit_good, pair_conditions, compose_conditions, answer_unless, compose_answer, compose_effect}
use Rattle.composition.proofs.UseLaws.{alike, Matched, owned_comm, owned_self, few_written, composed_ownable, ownable_short}

-- ---- the shapes of two policies

eqb_comm : (a b : ℕ) → eqb a b ≡ eqb b a
eqb_comm a b = by (ℕ_discrete a b)
  where
    by : Dec (a ≡ b) → eqb a b ≡ eqb b a
    by (yes e) = eq-eqb a b e ∙ sym (eq-eqb b a (sym e))
    by (no n) = ne_eqb a b n ∙ sym (ne_eqb b a (λ e. n (sym e)))

containers_comm : (cs ds : List Container) → same_containers cs ds ≡ same_containers ds cs
unfolding same_containers
containers_comm [] [] = refl
containers_comm [] (d ∷ ds) = refl
containers_comm (c ∷ cs) [] = refl
containers_comm (c ∷ cs) (d ∷ ds) =
    ap₂ (λ (x y : Bool). x && y) (eqb_comm c.kind d.kind) (ap₂ (λ (x y : Bool). x && y) (eqb_comm c.atom d.atom) (containers_comm cs ds))

shape_comm : (p q : Policy) → same_shape p q ≡ same_shape q p
unfolding same_shape
shape_comm p q = ap₂ (λ (x y : Bool). x && y) (containers_comm p.containers q.containers) (eqb_comm (length p.users) (length q.users))

containers_self : (cs : List Container) → same_containers cs cs ≡ true
unfolding same_containers
containers_self [] = refl
containers_self (c ∷ cs) = and_in (eq-eqb c.kind c.kind refl) (and_in (eq-eqb c.atom c.atom refl) (containers_self cs))

pub shape_self : (p : Policy) → same_shape p p ≡ true
unfolding same_shape
shape_self p = and_in (containers_self p.containers) (eq-eqb (length p.users) (length p.users) refl)

-- policies of one shape own what can be composed place by place
pub matched : (p q : Policy) → same_shape p q ≡ true → Matched (owned p) (owned q)
unfolding same_shape owned
matched p q h =
    let u : length p.users ≡ length q.users = eqb-true (length p.users) (length q.users) (and_1 (same_containers p.containers q.containers) h) in
    record {
      places = alike p q p.containers q.containers (and_0 (same_containers p.containers q.containers) (eqb (length p.users) (length q.users)) h);
      users = length-map p.users (use_at p) ∙ u ∙ sym (length-map q.users (use_at q));
    }

-- ---- the conditions in their order

pub image_holds : (a : List ℕ) → check_of a ≡ 0 → AllHold (image_conditions a)
unfolding check_of image_conditions numbers_distinct numbers_of elem
image_holds a h = (given_none (image_conditions a) refl).0 h

-- an image is refused by 1 to 6, or not
pub check_small : (i : List ℕ) → check_of i ≤ user_rule
check_small i = leb-true (check_of i) user_rule (every_elem (λ n. leb n user_rule) (0 ∷ numbers_of (image_conditions i)) (check_of i) low (unfold check_of in (given_among (image_conditions i))))
  where
    low : every (λ n. leb n user_rule) (0 ∷ numbers_of (image_conditions i)) ≡ true
    low = unfold every image_conditions numbers_of in refl

module _ (a b consent out : List ℕ) where
  abbrev pub compose_refusal : ℕ
  compose_refusal = first_failed (compose_conditions a b consent out)

  pub refusal_short : length out < output_bound → compose_refusal ≡ lent_length
  unfolding compose_conditions
  refusal_short h = failed (leb output_bound (length out) or_refuse lent_length) (image_conditions a ++ (image_conditions b ++ pair_conditions a b consent)) (lt-leb output_bound (length out) h)

  module _ (long : output_bound ≤ length out) where
    behind_output : compose_refusal ≡ first_failed (image_conditions a ++ (image_conditions b ++ pair_conditions a b consent))
    unfolding compose_conditions
    behind_output = passed (leb output_bound (length out) or_refuse lent_length) (image_conditions a ++ (image_conditions b ++ pair_conditions a b consent)) (le-leb output_bound (length out) long)

    pub refusal_first : check_of a ≢ 0 → compose_refusal ≡ check_of a
    unfolding check_of
    refusal_first d = behind_output ∙ first_stops (image_conditions a) (image_conditions b ++ pair_conditions a b consent) d

    module _ (first : check_of a ≡ 0) where
      behind_first : compose_refusal ≡ first_failed (image_conditions b ++ pair_conditions a b consent)
      behind_first = behind_output ∙ first_passed (image_conditions a) (image_conditions b ++ pair_conditions a b consent) (image_holds a first)

      pub refusal_second : check_of b ≢ 0 → compose_refusal ≡ check_of b
      unfolding check_of
      refusal_second d = behind_first ∙ first_stops (image_conditions b) (pair_conditions a b consent) d

      module _ (second : check_of b ≡ 0) where
        pub refusal_pair : compose_refusal ≡ first_failed (pair_conditions a b consent)
        refusal_pair = behind_first ∙ first_passed (image_conditions b) (pair_conditions a b consent) (image_holds b second)

        pub refusal_input : input_good a b consent ≡ false → compose_refusal ≡ composition_input
        unfolding pair_conditions
        refusal_input h = refusal_pair ∙ failed (input_good a b consent or_refuse composition_input) ((limit_good (composed a b consent) or_refuse composition_limit) ∷ []) h

        module _ (input : input_good a b consent ≡ true) where
          behind_input : compose_refusal ≡ first_failed ((limit_good (composed a b consent) or_refuse composition_limit) ∷ [])
          unfolding pair_conditions
          behind_input = refusal_pair ∙ passed (input_good a b consent or_refuse composition_input) ((limit_good (composed a b consent) or_refuse composition_limit) ∷ []) input

          pub refusal_limit : limit_good (composed a b consent) ≡ false → compose_refusal ≡ composition_limit
          refusal_limit h = behind_input ∙ failed (limit_good (composed a b consent) or_refuse composition_limit) [] h

          pub refusal_none : limit_good (composed a b consent) ≡ true → compose_refusal ≡ 0
          refusal_none h = behind_input ∙ passed (limit_good (composed a b consent) or_refuse composition_limit) [] h ∙ none_left

-- ---- exchange

-- what two images are composed to does not depend on their order
pub record Exchanged (a b consent : List ℕ) : Type 0 where
  pub refusal : first_failed (pair_conditions a b consent) ≡ first_failed (pair_conditions b a consent)
  pub image : first_failed (pair_conditions a b consent) ≡ 0 → composed_image a b consent ≡ composed_image b a consent

exchanged : (a b consent : List ℕ) → Exchanged a b consent
unfolding pair_conditions input_good composed_image composed first_failed
exchanged a b consent = by (decide (same_shape (policy_in a) (policy_in b)))
  where
    by : (same_shape (policy_in a) (policy_in b) ≡ true) ⊎ (same_shape (policy_in a) (policy_in b) ≡ false) → Exchanged a b consent
    by (inl e) =
        let f : same_shape (policy_in b) (policy_in a) ≡ true = shape_comm (policy_in b) (policy_in a) ∙ e in
        let m : composed_owned (consenting consent) (owned (policy_in a)) (owned (policy_in b)) ≡ composed_owned (consenting consent) (owned (policy_in b)) (owned (policy_in a))
        = owned_comm (consenting consent) (owned (policy_in a)) (owned (policy_in b)) (matched (policy_in a) (policy_in b) e) in
        record { refusal = rw (e, f, m); image = λ _. rw m }
    by (inr e) =
        let f : same_shape (policy_in b) (policy_in a) ≡ false = shape_comm (policy_in b) (policy_in a) ∙ e in
        record { refusal = rw (e, f); image = λ z. (let y : ◌≡◌ {A = ℕ} 20 0 = rw e at z in absurd (omega arith)) }

same_answer : (n : ℕ) (x y : List ℕ) → (n ≡ 0 → x ≡ y) → answer_unless n x ≡ answer_unless n y
unfolding answer_unless
same_answer zero x y h = ap (λ (l : List ℕ). record { refusal = 0; length = length l }) (h refl)
same_answer (suc n) x y h = refl

same_effect : (n : ℕ) (x y out : List ℕ) → (n ≡ 0 → x ≡ y) → written_unless n x out ≡ written_unless n y out
unfolding written_unless
same_effect zero x y out h = rw (h refl)
same_effect (suc n) x y out h = refl

-- of two accepted images: the same answer, refusals too, and the same bytes
pub exchange : (a b consent out : List ℕ) → check_of a ≡ 0 → check_of b ≡ 0
    → (compose_answer a b consent out ≡ compose_answer b a consent out) × (compose_effect a b consent out ≡ compose_effect b a consent out)
unfolding compose_answer compose_effect
exchange a b consent out h g = by (native.Mathlib.Decide.dec_lt (length out) output_bound)
  where
    x : Exchanged a b consent
    x = exchanged a b consent

    done : compose_refusal a b consent out ≡ compose_refusal b a consent out → (compose_refusal b a consent out ≡ 0 → composed_image a b consent ≡ composed_image b a consent)
        → (answer_unless (compose_refusal a b consent out) (composed_image a b consent) ≡ answer_unless (compose_refusal b a consent out) (composed_image b a consent))
        × (written_unless (compose_refusal a b consent out) (composed_image a b consent) out ≡ written_unless (compose_refusal b a consent out) (composed_image b a consent) out)
    done e f = (
      ap (λ (n : ℕ). answer_unless n (composed_image a b consent)) e ∙ same_answer (compose_refusal b a consent out) (composed_image a b consent) (composed_image b a consent) f,
      ap (λ (n : ℕ). written_unless n (composed_image a b consent) out) e ∙ same_effect (compose_refusal b a consent out) (composed_image a b consent) (composed_image b a consent) out f,
    )

    by : Dec (length out < output_bound)
        → (answer_unless (compose_refusal a b consent out) (composed_image a b consent) ≡ answer_unless (compose_refusal b a consent out) (composed_image b a consent))
        × (written_unless (compose_refusal a b consent out) (composed_image a b consent) out ≡ written_unless (compose_refusal b a consent out) (composed_image b a consent) out)
    by (yes l) = done (refusal_short a b consent out l ∙ sym (refusal_short b a consent out l)) (λ z. absurd (omega (arith, refusal_short b a consent out l)))
    by (no l) =
        let k : output_bound ≤ length out = omega arith in
        let p : compose_refusal a b consent out ≡ first_failed (pair_conditions a b consent) = refusal_pair a b consent out k h g in
        let q : compose_refusal b a consent out ≡ first_failed (pair_conditions b a consent) = refusal_pair b a consent out k g h in
        done (p ∙ x.refusal ∙ sym q) (λ z. x.image (x.refusal ∙ sym q ∙ z))

-- ---- an image with itself

module _ (a consent : List ℕ) (bytes : Bytes a) (e : check_of a ≡ 0) where
  ownable_in : Ownable (owned (policy_in a))
  ownable_in = owned_ownable (policy_in a) (accepted_sound a bytes e)

  pub self_owned : composed a a consent ≡ owned (policy_in a)
  unfolding composed
  self_owned = owned_self (consenting consent) (owned (policy_in a)) ownable_in

  pub self_image : composed_image a a consent ≡ normal_image (policy_in a)
  unfolding composed_image normal_image normal_policy
  self_image = ap (λ (m : Owned). encode (policy_of m)) self_owned

  pub normal_long : header_size ≤ length (normal_image (policy_in a))
  normal_long = writer.normal_long (policy_in a) (accepted_sound a bytes e)

  pub self_limit : limit_good (composed a a consent) ≡ true
  unfolding limit_good
  self_limit = rw self_owned (and_in (ownable_short (owned (policy_in a)) ownable_in) (few_written (owned (policy_in a)) ownable_in.few_rules))

  pub self_input : consent_good consent ≡ true → input_good a a consent ≡ true
  unfolding input_good
  self_input g = and_in (shape_self (policy_in a)) g

-- ---- what is written

module _ (c : ℕ) (a b : List ℕ) (ba : Bytes a) (bb : Bytes b) (ea : check_of a ≡ 0) (eb : check_of b ≡ 0) (shape : same_shape (policy_in a) (policy_in b) ≡ true) where
  abbrev pub both : Owned
  both = composed_owned c (owned (policy_in a)) (owned (policy_in b))

  module _ (limit : limit_good both ≡ true) where
    pub both_ownable : Ownable both
    unfolding limit_good
    both_ownable =
        composed_ownable c (owned (policy_in a)) (owned (policy_in b)) (matched (policy_in a) (policy_in b) shape) (ownable_in a [] ba ea) (ownable_in b [] bb eb)
        (and_0 (uses_short both) (rules_few both) limit) (and_1 (uses_short both) limit)

    pub both_sound : Sound (policy_of both)
    both_sound = policy_sound both both_ownable

    pub both_long : header_size ≤ length (encode (policy_of both))
    both_long = omega (arith, encode_length (policy_of both) both_sound)

    pub both_short : length (encode (policy_of both)) ≤ output_bound
    both_short = encode_short (policy_of both) both_sound

    pub both_read : (check_of (encode (policy_of both)) ≡ 0) × (policy_in (encode (policy_of both)) ≡ policy_of both)
    both_read = read_encode (policy_of both) both_sound

    -- the image owns what the two own together, so it is its own normal image
    pub both_owns : owned (policy_in (encode (policy_of both))) ≡ both
    both_owns = ap owned both_read.1 ∙ policy_owns both both_ownable

    pub both_fixed : normal_image (policy_in (encode (policy_of both))) ≡ encode (policy_of both)
    unfolding normal_image normal_policy
    both_fixed = ap (λ (m : Owned). encode (policy_of m)) both_owns
