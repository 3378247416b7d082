-- Two rules composed: the same after exchange, a rule with itself, what is covered, and the unrestricted rule.
use Prim.Native.Nat.{ℕ, ◌-◌, ◌^◌}
use mathlib.Core.Path.{◌≡◌, refl, sym, ap, ◌∙◌}
use mathlib.Core.Bool.{Bool, true, false, cond, ◌&&◌, ◌||◌}
use mathlib.Core.List.{List, [], ◌∷◌, ◌++◌}
use mathlib.Core.Logic.{◌⊎◌, inl, inr}
use native.Mathlib.Decide.{ℕ_discrete}
use lib.Dec.{eqb}
use borrow.Author.Tests.{eq-eqb, ne_eqb}
use Rattle.lists.specs.Lists.{elem, every}
use Rattle.lists.proofs.Bools.{and_in, and_0, and_1, or_0, or_1, or_cases, or_none, same_test, clash}
use Rattle.lists.proofs.Elem.{elem_here, elem_there}
use Rattle.lists.proofs.Every.{every_0, every_1, every_nil, every_cons, every_append, every_elem}
use Rattle.rules.specs.Sets.{holds}
use Rattle.rules.specs.Rules.{covers, normal, unrestricted}
use Rattle.rules.specs.Order.{Within}
use Rattle.rules.specs.Answers.{tag_width}
use Rattle.rules.proofs.SetLaws.{holds_refl, holds_all}
use Rattle.rules.proofs.RuleLaws.{covers_by, Largest, largest, covers_normal, normal_unique, normal_normal, covers_append, covers_part, normal_among}
use Rattle.rules.proofs.MeetAll.{normal_one}
use Rattle.image.specs.Limits.{no_owner}
use Rattle.image.specs.Policy.{unrestricted_rule}
use Rattle.composition.specs.Composed.{enters, entering, composed_rule, composed_owner}

-- ---- which mixtures enter

pub elem_entering : (c : ℕ) (other r : List ℕ) (m : ℕ) → elem m (entering c other r) ≡ (elem m r && enters c other m)
unfolding entering elem
elem_entering c other [] m = refl
elem_entering c other (n ∷ r) m = by (enters c other n) refl (ℕ_discrete m n) (elem_entering c other r m)
  where
    off : (x : Bool) → (x && false) ≡ false
    off true = refl
    off false = refl

    by : (b : Bool) → enters c other n ≡ b → Dec (m ≡ n) → elem m (entering c other r) ≡ (elem m r && enters c other m)
        → elem m (cond b (n ∷ entering c other r) (entering c other r)) ≡ ((eqb m n || elem m r) && enters c other m)
    by true e (yes z) ih = let y : enters c other m ≡ true = ap (enters c other) z ∙ e in rw (eq-eqb m n z, y)
    by true e (no z) ih = rw (ne_eqb m n z) ih
    by false e (yes z) ih = let y : enters c other m ≡ false = ap (enters c other) z ∙ e in rw (eq-eqb m n z, y) (ih ∙ rw y (off (elem m r)))
    by false e (no z) ih = rw (ne_eqb m n z) ih

pub entering_every : (f : ℕ → Bool) (c : ℕ) (other r : List ℕ) → every f r ≡ true → every f (entering c other r) ≡ true
unfolding entering
entering_every f c other [] h = every_nil f
entering_every f c other (m ∷ r) h = by (enters c other m) (entering_every f c other r (every_1 f m r h))
  where
    by : (b : Bool) → every f (entering c other r) ≡ true → every f (cond b (m ∷ entering c other r) (entering c other r)) ≡ true
    by true ih = every_cons f m (entering c other r) (every_0 f m r h) ih
    by false ih = ih

elem_every : (f : ℕ → Bool) (r : List ℕ) → ((m : ℕ) → elem m r ≡ true → f m ≡ true) → every f r ≡ true
elem_every f [] h = every_nil f
elem_every f (n ∷ r) h = every_cons f n r (h n (elem_here n r)) (elem_every f r (λ m e. h m (elem_there m n r e)))

normal_every : (f : ℕ → Bool) (r : List ℕ) → every f r ≡ true → every f (normal r) ≡ true
normal_every f r h = elem_every f (normal r) (λ m e. every_elem f r m h (normal_among r m e))

-- what holds of the mixtures of both holds of those of the composed rule: it has no others
pub composed_every : (f : ℕ → Bool) (c : ℕ) (r s : List ℕ) → every f r ≡ true → every f s ≡ true → every f (composed_rule c r s) ≡ true
unfolding composed_rule
composed_every f c r s h k =
    normal_every f (entering c s (normal r) ++ entering c r (normal s))
    (every_append f (entering c s (normal r)) (entering c r (normal s))
    (entering_every f c s (normal r) (normal_every f r h)) (entering_every f c r (normal s) (normal_every f s k)))

pub composed_normal : (c : ℕ) (r s : List ℕ) → normal (composed_rule c r s) ≡ composed_rule c r s
unfolding composed_rule
composed_normal c r s = normal_normal (entering c s (normal r) ++ entering c r (normal s))

-- ---- exchanging the rules, and the owners

or_comm : (a b : Bool) → (a || b) ≡ (b || a)
or_comm true true = refl
or_comm true false = refl
or_comm false true = refl
or_comm false false = refl

pub composed_comm : (c : ℕ) (r s : List ℕ) → composed_rule c r s ≡ composed_rule c s r
unfolding composed_rule
composed_comm c r s =
    normal_unique (entering c s (normal r) ++ entering c r (normal s)) (entering c r (normal s) ++ entering c s (normal r))
    (λ t. covers_append (entering c s (normal r)) (entering c r (normal s)) t
    ∙ or_comm (covers (entering c s (normal r)) t) (covers (entering c r (normal s)) t)
    ∙ sym (covers_append (entering c r (normal s)) (entering c s (normal r)) t))

pub owner_comm : (a b : ℕ) → composed_owner a b ≡ composed_owner b a
unfolding composed_owner
owner_comm a b = by (ℕ_discrete a b)
  where
    by : Dec (a ≡ b) → cond (eqb a b) a no_owner ≡ cond (eqb b a) b no_owner
    by (yes e) = rw (eq-eqb a b e, eq-eqb b a (sym e)) e
    by (no n) = rw (ne_eqb a b n, ne_eqb b a (λ e. n (sym e)))

pub owner_same : (a b : ℕ) → a ≡ b → composed_owner a b ≡ a
unfolding composed_owner
owner_same a b e = rw (eq-eqb a b e)

pub owner_other : (a b : ℕ) → (a ≡ b → ⊥) → composed_owner a b ≡ no_owner
unfolding composed_owner
owner_other a b d = rw (ne_eqb a b d)

-- ---- a rule with itself

covers_entering : (c : ℕ) (other r : List ℕ) (t : ℕ) → covers (entering c other r) t ≡ true → covers r t ≡ true
covers_entering c other r t h =
    let l : Largest (entering c other r) t = largest (entering c other r) t h in
    covers_by l.top r t (and_0 (elem l.top r) (enters c other l.top) (sym (elem_entering c other r l.top) ∙ l.among)) l.over

-- where all mixtures of a rule enter, what it covers is covered
all_enter : (c : ℕ) (other r : List ℕ) → ((m : ℕ) → elem m r ≡ true → covers other m ≡ true) → (t : ℕ) → covers r t ≡ true → covers (entering c other r) t ≡ true
unfolding enters
all_enter c other r f t h =
    let l : Largest r t = largest r t h in
    covers_by l.top (entering c other r) t (elem_entering c other r l.top ∙ and_in l.among (or_0 (covers other l.top) (holds c l.top) (f l.top l.among))) l.over

-- each mixture of a rule's normal form is covered by the rule
own_covered : (r : List ℕ) (m : ℕ) → elem m (normal r) ≡ true → covers r m ≡ true
own_covered r m h = covers_by m r m (normal_among r m h) (holds_refl m)

pub composed_self : (c : ℕ) (r : List ℕ) → composed_rule c r r ≡ normal r
unfolding composed_rule
composed_self c r =
    normal_unique (entering c r (normal r) ++ entering c r (normal r)) r
    (λ t. covers_append (entering c r (normal r)) (entering c r (normal r)) t ∙ twice (covers (entering c r (normal r)) t) ∙ same t)
  where
    twice : (x : Bool) → (x || x) ≡ x
    twice true = refl
    twice false = refl

    same : (t : ℕ) → covers (entering c r (normal r)) t ≡ covers r t
    same t =
        same_test (covers (entering c r (normal r)) t) (covers r t)
        (λ h. sym (covers_normal r t) ∙ covers_entering c r (normal r) t h)
        (λ h. all_enter c r (normal r) (own_covered r) t (covers_normal r t ∙ h))

-- ---- what a composed rule covers: both rules cover it, or one does by a mixture that wholly consents

pub record Consented (c : ℕ) (r : List ℕ) (t : ℕ) : Type 0 where
  pub mixture : ℕ
  pub among : elem mixture (normal r) ≡ true
  pub over : holds mixture t ≡ true
  pub consent : holds c mixture ≡ true

side : (c : ℕ) (r s : List ℕ) (t : ℕ) → covers (entering c s (normal r)) t ≡ true → ((covers r t ≡ true) × (covers s t ≡ true)) ⊎ Consented c r t
unfolding enters
side c r s t h = at (largest (entering c s (normal r)) t h)
  where
    at : Largest (entering c s (normal r)) t → ((covers r t ≡ true) × (covers s t ≡ true)) ⊎ Consented c r t
    at l = by (or_cases (covers s l.top) (and_1 (elem l.top (normal r)) (sym (elem_entering c s (normal r) l.top) ∙ l.among)))
      where
        own : elem l.top (normal r) ≡ true
        own = and_0 (elem l.top (normal r)) (enters c s l.top) (sym (elem_entering c s (normal r) l.top) ∙ l.among)

        by : (covers s l.top ≡ true) ⊎ (holds c l.top ≡ true) → ((covers r t ≡ true) × (covers s t ≡ true)) ⊎ Consented c r t
        by (inl e) = inl (sym (covers_normal r t) ∙ covers_by l.top (normal r) t own l.over, covers_part s t l.top l.over e)
        by (inr e) = inr (record { mixture = l.top; among = own; over = l.over; consent = e })

pub composed_sound : (c : ℕ) (r s : List ℕ) (t : ℕ) → covers (composed_rule c r s) t ≡ true
    → ((covers r t ≡ true) × (covers s t ≡ true)) ⊎ (Consented c r t ⊎ Consented c s t)
unfolding composed_rule
composed_sound c r s t h =
    by
    (or_cases (covers (entering c s (normal r)) t)
    (sym (covers_append (entering c s (normal r)) (entering c r (normal s)) t)
    ∙ sym (covers_normal (entering c s (normal r) ++ entering c r (normal s)) t) ∙ h))
  where
    first : ((covers r t ≡ true) × (covers s t ≡ true)) ⊎ Consented c r t → ((covers r t ≡ true) × (covers s t ≡ true)) ⊎ (Consented c r t ⊎ Consented c s t)
    first (inl x) = inl x
    first (inr x) = inr (inl x)

    second : ((covers s t ≡ true) × (covers r t ≡ true)) ⊎ Consented c s t → ((covers r t ≡ true) × (covers s t ≡ true)) ⊎ (Consented c r t ⊎ Consented c s t)
    second (inl x) = inl (x.1, x.0)
    second (inr x) = inr (inr x)

    by : (covers (entering c s (normal r)) t ≡ true) ⊎ (covers (entering c r (normal s)) t ≡ true) → ((covers r t ≡ true) × (covers s t ≡ true)) ⊎ (Consented c r t ⊎ Consented c s t)
    by (inl e) = first (side c r s t e)
    by (inr e) = second (side c s r t e)

-- a mixture that wholly consents, of either rule's normal form, is covered
pub composed_consented : (c : ℕ) (r s : List ℕ) (t : ℕ) → Consented c r t → covers (composed_rule c r s) t ≡ true
unfolding composed_rule enters
composed_consented c r s t k =
    covers_normal (entering c s (normal r) ++ entering c r (normal s)) t
    ∙ covers_append (entering c s (normal r)) (entering c r (normal s)) t
    ∙ or_0 (covers (entering c s (normal r)) t) (covers (entering c r (normal s)) t)
    (covers_by k.mixture (entering c s (normal r)) t (elem_entering c s (normal r) k.mixture ∙ and_in k.among (or_1 (covers s k.mixture) (holds c k.mixture) k.consent)) k.over)

-- ---- the unrestricted rule is neutral unless all atoms consent

module _ (c : ℕ) (r : List ℕ) (within : Within tag_width r) (partly : holds c (2 ^ tag_width - 1) ≡ false) where
  -- the one mixture of the unrestricted rule enters only where the rule covers it
  first_covered : (t : ℕ) → covers (entering c r ((2 ^ tag_width - 1) ∷ [])) t ≡ true → covers r t ≡ true
  unfolding enters
  first_covered t h = at (largest (entering c r ((2 ^ tag_width - 1) ∷ [])) t h)
    where
      at : Largest (entering c r ((2 ^ tag_width - 1) ∷ [])) t → covers r t ≡ true
      at l =
          let e : (elem l.top ((2 ^ tag_width - 1) ∷ []) && (covers r l.top || holds c l.top)) ≡ true = sym (elem_entering c r ((2 ^ tag_width - 1) ∷ []) l.top) ∙ l.among in
          let z : l.top ≡ 2 ^ tag_width - 1 = is_one l.top (2 ^ tag_width - 1) (and_0 (elem l.top ((2 ^ tag_width - 1) ∷ [])) (covers r l.top || holds c l.top) e) in
          by z (or_cases (covers r l.top) (and_1 (elem l.top ((2 ^ tag_width - 1) ∷ [])) e))
        where
          is_one : (x y : ℕ) → elem x (y ∷ []) ≡ true → x ≡ y
          is_one x y q = unfold elem in (borrow.Author.Tests.eqb-true x y (sym (or_none (eqb x y)) ∙ q))

          by : l.top ≡ 2 ^ tag_width - 1 → (covers r l.top ≡ true) ⊎ (holds c l.top ≡ true) → covers r t ≡ true
          by z (inl e) = covers_part r t l.top l.over e
          by z (inr e) = clash (ap (holds c) (sym z) ∙ e) partly

  pub composed_unrestricted : composed_rule c unrestricted_rule r ≡ normal r
  unfolding composed_rule unrestricted_rule unrestricted
  composed_unrestricted =
      ap (λ (x : List ℕ). normal (entering c r x ++ entering c ((2 ^ tag_width - 1) ∷ []) (normal r))) (normal_one (2 ^ tag_width - 1))
      ∙ normal_unique (entering c r ((2 ^ tag_width - 1) ∷ []) ++ entering c ((2 ^ tag_width - 1) ∷ []) (normal r)) r
      (λ t. covers_append (entering c r ((2 ^ tag_width - 1) ∷ [])) (entering c ((2 ^ tag_width - 1) ∷ []) (normal r)) t
      ∙ same_test (covers (entering c r ((2 ^ tag_width - 1) ∷ [])) t || covers (entering c ((2 ^ tag_width - 1) ∷ []) (normal r)) t) (covers r t)
      (λ h. to t (or_cases (covers (entering c r ((2 ^ tag_width - 1) ∷ [])) t) h)) (from t))
    where
      under_all : (m : ℕ) → elem m (normal r) ≡ true → covers ((2 ^ tag_width - 1) ∷ []) m ≡ true
      under_all m h = covers_by (2 ^ tag_width - 1) ((2 ^ tag_width - 1) ∷ []) m (elem_here (2 ^ tag_width - 1) []) (holds_all tag_width m (within m (normal_among r m h)))

      to : (t : ℕ) → (covers (entering c r ((2 ^ tag_width - 1) ∷ [])) t ≡ true) ⊎ (covers (entering c ((2 ^ tag_width - 1) ∷ []) (normal r)) t ≡ true) → covers r t ≡ true
      to t (inl e) = first_covered t e
      to t (inr e) = sym (covers_normal r t) ∙ covers_entering c ((2 ^ tag_width - 1) ∷ []) (normal r) t e

      from : (t : ℕ) → covers r t ≡ true → (covers (entering c r ((2 ^ tag_width - 1) ∷ [])) t || covers (entering c ((2 ^ tag_width - 1) ∷ []) (normal r)) t) ≡ true
      from t h =
          or_1 (covers (entering c r ((2 ^ tag_width - 1) ∷ [])) t) (covers (entering c ((2 ^ tag_width - 1) ∷ []) (normal r)) t)
          (all_enter c ((2 ^ tag_width - 1) ∷ []) (normal r) under_all t (covers_normal r t ∙ h))
