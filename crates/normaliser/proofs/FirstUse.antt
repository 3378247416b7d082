-- Classes that take their places by first use.
use Prim.Native.Nat.{ℕ, suc, ◌+◌, ◌-◌, ◌^◌, ◌≤◌, ◌<◌}
use mathlib.Core.Path.{◌≡◌, refl, sym, ap, ap₂, ◌∙◌}
use mathlib.Core.Bool.{Bool, true, false, cond, ◌&&◌, ◌||◌}
use mathlib.Core.List.{List, [], ◌∷◌, ◌++◌}
use mathlib.Core.Logic.{⊎_elim}
use native.Mathlib.Omega.{arith}
use native.Mathlib.Numerals.{add-one}
use native.Mathlib.Decide.{ℕ_discrete}
use lib.Dec.{eqb, ltb}
use lib.ListN.{length, get_or, take, set, length-append, length-set}
use lib.Seq.{take-suc-set, get_or-set_same, get_or-set_other, length-take-le}
use borrow.Author.Tests.{eqb-true, eq-eqb, ne_eqb, ltb-true}
use Rattle.lists.proofs.Bools.{and_0, and_1, or_1, or_cases, clash}
use Rattle.lists.specs.Lists.{elem}
use Rattle.image.specs.Limits.{unrestricted_number}
use Rattle.image.specs.Policy.{named}
use Rattle.image.proofs.RulesByNumber.{named_own}
use Rattle.normaliser.specs.Writer.{use_limit}
use Rattle.normaliser.specs.Tables.{class_at, class_named, with_class, with_classes, index_of, place_in, Ordered, Placeable, found, new_number}

-- ---- one class

pub with_class_none : (t : List ℕ) (v : ℕ) → v ≡ unrestricted_number → with_class t v ≡ t
unfolding with_class
with_class_none t v e = rw (eq-eqb v unrestricted_number e)

pub with_class_old : (t : List ℕ) (v : ℕ) → elem v t ≡ true → with_class t v ≡ t
unfolding with_class
with_class_old t v h = ap (λ (b : Bool). cond b t (t ++ (v ∷ []))) (or_1 (eqb v unrestricted_number) (elem v t) h)

pub with_class_new : (t : List ℕ) (v : ℕ) → (v ≡ unrestricted_number → ⊥) → elem v t ≡ false → with_class t v ≡ t ++ (v ∷ [])
unfolding with_class
with_class_new t v d h = rw (ne_eqb v unrestricted_number d, h)

pub in_place : (t : List ℕ) (v : ℕ) → (place_in v t ≡ 0 → ⊥) → elem v t ≡ true
unfolding place_in
in_place t v = by (elem v t)
  where
    by : (b : Bool) → (cond b (suc (index_of v t)) 0 ≡ 0 → ⊥) → b ≡ true
    by true d = refl
    by false d = absurd (d refl)

pub not_in_place : (t : List ℕ) (v : ℕ) → place_in v t ≡ 0 → elem v t ≡ false
unfolding place_in
not_in_place t v = by (elem v t)
  where
    by : (b : Bool) → cond b (suc (index_of v t)) 0 ≡ 0 → b ≡ false
    by true e = absurd (omega arith)
    by false e = refl

or-false : (b : Bool) → (b || false) ≡ b
or-false true = refl
or-false false = refl

-- a class behind the others
elem_behind : (v x : ℕ) (t : List ℕ) → elem x (t ++ (v ∷ [])) ≡ (elem x t || eqb x v)
unfolding elem
elem_behind v x [] = or-false (eqb x v)
elem_behind v x (y ∷ t) = by (eqb x y) (elem_behind v x t)
  where
    by : (b : Bool) → elem x (t ++ (v ∷ [])) ≡ (elem x t || eqb x v) → (b || elem x (t ++ (v ∷ []))) ≡ ((b || elem x t) || eqb x v)
    by true ih = refl
    by false ih = ih

index_behind : (v x : ℕ) (t : List ℕ) → elem x t ≡ true → index_of x (t ++ (v ∷ [])) ≡ index_of x t
unfolding elem index_of
index_behind v x [] h = clash h refl
index_behind v x (y ∷ t) h = by (eqb x y) h (index_behind v x t)
  where
    by : (b : Bool) → (b || elem x t) ≡ true → (elem x t ≡ true → index_of x (t ++ (v ∷ [])) ≡ index_of x t) → cond b 0 (suc (index_of x (t ++ (v ∷ [])))) ≡ cond b 0 (suc (index_of x t))
    by true k ih = refl
    by false k ih = ap suc (ih k)

index_last : (v : ℕ) (t : List ℕ) → elem v t ≡ false → index_of v (t ++ (v ∷ [])) ≡ length t
unfolding elem index_of
index_last v [] h = rw (eq-eqb v v refl)
index_last v (y ∷ t) h = by (eqb v y) h (index_last v t)
  where
    by : (b : Bool) → (b || elem v t) ≡ false → (elem v t ≡ false → index_of v (t ++ (v ∷ [])) ≡ length t) → cond b 0 (suc (index_of v (t ++ (v ∷ [])))) ≡ suc (length t)
    by true k ih = clash refl k
    by false k ih = ap suc (ih k)

place_last : (v : ℕ) (t : List ℕ) → elem v t ≡ false → place_in v (t ++ (v ∷ [])) ≡ suc (length t)
unfolding place_in
place_last v t h =
    ap₂ (λ (b : Bool) (n : ℕ). cond b (suc n) 0) (elem_behind v v t ∙ or_1 (elem v t) (eqb v v) (eq-eqb v v refl)) (index_last v t h)

place_other : (v x : ℕ) (t : List ℕ) → (x ≡ v → ⊥) → place_in x (t ++ (v ∷ [])) ≡ place_in x t
unfolding place_in
place_other v x t d =
    let e : elem x (t ++ (v ∷ [])) ≡ elem x t = elem_behind v x t ∙ ap (λ (b : Bool). elem x t || b) (ne_eqb x v d) ∙ or-false (elem x t) in
    ap (λ (b : Bool). cond b (suc (index_of x (t ++ (v ∷ [])))) 0) e ∙ by (elem x t) refl
  where
    by : (b : Bool) → elem x t ≡ b → cond b (suc (index_of x (t ++ (v ∷ [])))) 0 ≡ cond b (suc (index_of x t)) 0
    by true e = ap suc (index_behind v x t e)
    by false e = refl

-- the tables with one class more
module _ (order ranks : List ℕ) (m : ℕ) (g : Ordered order ranks m) (v : ℕ) (room : m < length order) (small : v < length ranks) (h : elem v (take m order) ≡ false) where
  pub taken_new : take (m + 1) (set order m v) ≡ take m order ++ (v ∷ [])
  taken_new = ap (λ (n : ℕ). take n (set order m v)) (add-one m) ∙ take-suc-set order m v room

  pub ordered_new : Ordered (set order m v) (set ranks v (m + 1)) (m + 1)
  ordered_new = record { room = omega (arith, length-set order m v); few = omega (arith, length-set order m v, g.few); is = λ x l. by x (omega (arith, length-set ranks v (m + 1))) (ℕ_discrete x v) }
    where
      e : length (take m order) ≡ m
      e = length-take-le m order (omega arith)

      by : (x : ℕ) → x < length ranks → Dec (x ≡ v) → get_or (set ranks v (m + 1)) x 0 ≡ place_in x (take (m + 1) (set order m v))
      by x l (yes q) =
          ap (λ (y : ℕ). get_or (set ranks v (m + 1)) y 0) q ∙ get_or-set_same ranks v (m + 1) 0 small
          ∙ sym (ap₂ place_in q taken_new ∙ place_last v (take m order) h ∙ omega (arith, e))
      by x l (no d) =
          get_or-set_other ranks v x (m + 1) 0 d ∙ g.is x l ∙ sym (ap (place_in x) taken_new ∙ place_other v x (take m order) d)

-- ---- several classes

with_class_grows : (t : List ℕ) (v : ℕ) → length t ≤ length (with_class t v)
unfolding with_class
with_class_grows t v = by (eqb v unrestricted_number || elem v t)
  where
    by : (b : Bool) → length t ≤ length (cond b t (t ++ (v ∷ [])))
    by true = omega arith
    by false = omega (arith, length-append t (v ∷ []))

pub classes_grow : (t vs : List ℕ) → length t ≤ length (with_classes t vs)
unfolding with_classes
classes_grow t [] = omega arith
classes_grow t (v ∷ vs) = omega (arith, with_class_grows t v, classes_grow (with_class t v) vs)

pub classes_append : (t vs ws : List ℕ) → with_classes t (vs ++ ws) ≡ with_classes (with_classes t vs) ws
unfolding with_classes
classes_append t [] ws = refl
classes_append t (v ∷ vs) ws = classes_append (with_class t v) vs ws

-- what is left to place makes the whole
pub record Placing (rest whole order₀ ranks₀ order ranks : List ℕ) (m : ℕ) : Type 0 where
  pub ordered : Ordered order ranks m
  pub left : with_classes (take m order) rest ≡ whole
  pub long_order : length order ≡ length order₀
  pub long_ranks : length ranks ≡ length ranks₀
  pub fits : length whole ≤ length order₀

pub placing_start : (rest order ranks : List ℕ) (m : ℕ) → Ordered order ranks m → length (with_classes (take m order) rest) ≤ length order
    → Placing rest (with_classes (take m order) rest) order ranks order ranks m
placing_start rest order ranks m g h = record { ordered = g; left = refl; long_order = refl; long_ranks = refl; fits = h }

module _ {v : ℕ} {rest whole order₀ ranks₀ order ranks : List ℕ} {m : ℕ} (g : Placing (v ∷ rest) whole order₀ ranks₀ order ranks m) where
  pub placing_room : length (with_class (take m order) v) ≤ length order
  unfolding with_classes
  placing_room = omega (arith, classes_grow (with_class (take m order) v) rest, ap length g.left, g.fits, g.long_order)

  pub placing_next : {order' ranks' : List ℕ} {r : ℕ} → Ordered order' ranks' r → take r order' ≡ with_class (take m order) v → length order' ≡ length order → length ranks' ≡ length ranks
      → Placing rest whole order₀ ranks₀ order' ranks' r
  unfolding with_classes
  placing_next o e f q =
      record { ordered = o; left = ap (λ (t : List ℕ). with_classes t rest) e ∙ g.left; long_order = f ∙ g.long_order; long_ranks = q ∙ g.long_ranks; fits = g.fits }

pub placing_asks : (classes : List ℕ) {rest whole order₀ ranks₀ order ranks : List ℕ} {m : ℕ} (k : ℕ) → class_named classes (length ranks₀) k ≡ true
    → Placing (class_at classes k ∷ rest) whole order₀ ranks₀ order ranks m → Placeable classes order ranks m k
unfolding class_named
placing_asks classes {rest} {whole} {order₀} {ranks₀} {order} {ranks} {m} k h g =
    record {
      known = and_0 (named (length classes) k) (named (length ranks₀) (class_at classes k)) h;
      small = rw g.long_ranks (and_1 (named (length classes) k) h);
      room = placing_room g;
      ordered = g.ordered;
    }

pub placing_end : (whole order₀ ranks₀ order ranks : List ℕ) (m : ℕ) → Placing [] whole order₀ ranks₀ order ranks m → take m order ≡ whole
unfolding with_classes
placing_end whole order₀ ranks₀ order ranks m g = g.left

-- nothing is with_class in tables of zeros
pub ordered_empty : (order ranks : List ℕ) → length order ≤ use_limit → ((v : ℕ) → get_or ranks v 0 ≡ 0) → Ordered order ranks 0
unfolding place_in elem
ordered_empty order ranks l z = record { room = omega arith; few = l; is = λ v h. z v }

-- ---- a rule number's class

pub class_none : (classes : List ℕ) (k : ℕ) → k ≡ unrestricted_number → class_at classes k ≡ unrestricted_number
unfolding class_at
class_none classes k e = rw (eq-eqb k unrestricted_number e)

pub class_some : (classes : List ℕ) (k : ℕ) → (k ≡ unrestricted_number → ⊥) → class_at classes k ≡ get_or classes k 0
unfolding class_at
class_some classes k d = rw (ne_eqb k unrestricted_number d)

-- ---- the function `place`

module _ {classes order ranks : List ℕ} {m k : ℕ} (p : Placeable classes order ranks m k) where
  pub place_none : k ≡ unrestricted_number → take m order ≡ with_class (take m order) (class_at classes k)
  place_none e = sym (with_class_none (take m order) (class_at classes k) (class_none classes k e))

  pub place_known : (k ≡ unrestricted_number → ⊥) → k < length classes
  place_known d = named_own (length classes) k p.known d

  pub place_unlimited : (k ≡ unrestricted_number → ⊥) → get_or classes k 0 ≡ unrestricted_number → take m order ≡ with_class (take m order) (class_at classes k)
  place_unlimited d e = sym (with_class_none (take m order) (class_at classes k) (class_some classes k d ∙ e))

module _ {classes order ranks : List ℕ} {m k : ℕ} (p : Placeable classes order ranks m k) (d : k ≡ unrestricted_number → ⊥) (f : get_or classes k 0 ≡ unrestricted_number → ⊥) where
  pub class_small : get_or classes k 0 < length ranks
  class_small = named_own (length ranks) (get_or classes k 0) (rw (class_some classes k d) at p.small) f

  pub place_old : (get_or ranks (get_or classes k 0) 0 ≡ 0 → ⊥) → take m order ≡ with_class (take m order) (class_at classes k)
  place_old n =
      sym (ap (with_class (take m order)) (class_some classes k d)
      ∙ with_class_old (take m order) (get_or classes k 0) (in_place (take m order) (get_or classes k 0) (λ e. n (p.ordered.is (get_or classes k 0) class_small ∙ e))))

  module _ (n : get_or ranks (get_or classes k 0) 0 ≡ 0) where
    absent : elem (get_or classes k 0) (take m order) ≡ false
    absent = not_in_place (take m order) (get_or classes k 0) (sym (p.ordered.is (get_or classes k 0) class_small) ∙ n)

    added : with_class (take m order) (class_at classes k) ≡ take m order ++ (get_or classes k 0 ∷ [])
    added = ap (with_class (take m order)) (class_some classes k d) ∙ with_class_new (take m order) (get_or classes k 0) f absent

    pub place_room : m < length order
    place_room = omega (arith, ap length added, length-append (take m order) (get_or classes k 0 ∷ []), length-take-le m order p.ordered.room, p.room)

    -- the next place is a number of 16 bits
    pub place_fits : m + 1 < 2 ^ 16
    place_fits = omega (arith, place_room, p.ordered.few)

    pub place_taken : take (m + 1) (set order m (get_or classes k 0)) ≡ with_class (take m order) (class_at classes k)
    place_taken = taken_new order ranks m p.ordered (get_or classes k 0) place_room class_small absent ∙ sym added

    pub place_ordered : Ordered (set order m (get_or classes k 0)) (set ranks (get_or classes k 0) (m + 1)) (m + 1)
    place_ordered = ordered_new order ranks m p.ordered (get_or classes k 0) place_room class_small absent

-- ---- the function `number`

module _ (classes ranks : List ℕ) (k : ℕ) (h : found classes ranks k ≡ true) where
  pub number_none : k ≡ unrestricted_number → unrestricted_number ≡ new_number classes ranks k
  unfolding new_number
  number_none e = rw (class_none classes k e)

  pub number_known : (k ≡ unrestricted_number → ⊥) → k < length classes
  unfolding found
  number_known d = named_own (length classes) k (and_0 (named (length classes) k) _ h) d

  module _ (d : k ≡ unrestricted_number → ⊥) where
    pub number_unlimited : get_or classes k 0 ≡ unrestricted_number → unrestricted_number ≡ new_number classes ranks k
    unfolding new_number
    number_unlimited e = rw (class_some classes k d, e)

    rest : (named (length ranks) (get_or classes k 0) && (eqb (get_or classes k 0) unrestricted_number || ltb 0 (get_or ranks (get_or classes k 0) 0))) ≡ true
    unfolding found
    rest = rw (class_some classes k d) at (and_1 (named (length classes) k) h)

    module _ (f : get_or classes k 0 ≡ unrestricted_number → ⊥) where
      pub number_small : get_or classes k 0 < length ranks
      number_small = named_own (length ranks) (get_or classes k 0) (and_0 (named (length ranks) (get_or classes k 0)) _ rest) f

      pub number_positive : 1 ≤ get_or ranks (get_or classes k 0) 0
      number_positive =
          ⊎_elim (λ p. absurd (f (eqb-true (get_or classes k 0) unrestricted_number p))) (λ p. ltb-true 0 (get_or ranks (get_or classes k 0) 0) p)
          (or_cases (eqb (get_or classes k 0) unrestricted_number) (and_1 (named (length ranks) (get_or classes k 0)) rest))

      pub number_some : get_or ranks (get_or classes k 0) 0 - 1 ≡ new_number classes ranks k
      unfolding new_number
      number_some = rw (class_some classes k d, ne_eqb (get_or classes k 0) unrestricted_number f)
