-- The first mixture that covers a tag.
use Prim.Native.Nat.{ℕ, zero, suc, ◌+◌, ◌≤◌, ◌<◌}
use native.Mathlib.Omega.{arith}
use native.Mathlib.Numerals.{add-one}
use mathlib.Core.Path.{◌≡◌, refl, sym, subst, ap, ◌∙◌}
use mathlib.Core.Logic.{⊎_elim}
use mathlib.Core.Bool.{Bool, true, false, not, cond, ◌||◌}
use mathlib.Core.List.{List, [], ◌∷◌}
use lib.Bits.{bit_and}
use lib.Dec.{eqb}
use lib.ListN.{length, get_or, drop, drop_of_length-le}
use lib.Seq.{drop-cons}
use borrow.Author.Tests.{eq-eqb, ne_eqb}
use Rattle.lists.proofs.Bools.{clash, decide}
use Rattle.lists.proofs.Elem.{elem_none, elem_cases}
use Rattle.lists.specs.Lists.{elem}
use Rattle.rules.specs.Sets.{holds}
use Rattle.rules.specs.Rules.{covers, no_position, cover_from, cover_place}
use Rattle.rules.specs.Order.{Ascending}
use Rattle.rules.specs.Answers.{mixture_limit}
use Rattle.rules.proofs.SetLaws.{holds_is, holds_not, holds_empty}

-- ---- where it is

-- the mixture at the place i of r holds t, and none before it does
pub record First (r : List ℕ) (t : ℕ) (i : ℕ) : Type 0 where
  pub inside : i < length r
  pub over : holds (get_or r i 0) t ≡ true
  pub before : (j : ℕ) → j < i → holds (get_or r j 0) t ≡ false

first_here : (m : ℕ) (r : List ℕ) (t : ℕ) → holds m t ≡ true → First (m ∷ r) t 0
first_here m r t h = record { inside = omega arith; over = h; before = λ j l. absurd (omega arith) }

first_later : (m : ℕ) (r : List ℕ) (t i : ℕ) → holds m t ≡ false → First r t i → First (m ∷ r) t (suc i)
first_later m r t i n f = record { inside = omega (arith, f.inside); over = f.over; before = earlier }
  where
    earlier : (j : ℕ) → j < suc i → holds (get_or (m ∷ r) j 0) t ≡ false
    earlier zero l = n
    earlier (suc j) l = f.before j (omega arith)

first_rest : (m : ℕ) (r : List ℕ) (t i : ℕ) → First (m ∷ r) t (suc i) → First r t i
first_rest m r t i f = record { inside = omega (arith, f.inside); over = f.over; before = λ j l. f.before (suc j) (omega arith) }

-- a rule that covers has one, and the count finds it
found_from : (r : List ℕ) (t k : ℕ) → covers r t ≡ true → (i : ℕ) × (cover_from k r t ≡ k + i) × First r t i
unfolding covers cover_from
found_from [] t k h = clash h refl
found_from (m ∷ r) t k h = by (holds m t) refl h (found_from r t (suc k))
  where
    by : (b : Bool) → holds m t ≡ b → (b || covers r t) ≡ true → (covers r t ≡ true → (i : ℕ) × (cover_from (suc k) r t ≡ suc k + i) × First r t i)
        → (i : ℕ) × (cond b k (cover_from (suc k) r t) ≡ k + i) × First (m ∷ r) t i
    by true e g rest = (0, omega arith, first_here m r t e)
    by false e g rest = let z = rest g in (suc z.0, omega (arith, z.1), first_later m r t z.0 e z.2)

missed_from : (r : List ℕ) (t k : ℕ) → covers r t ≡ false → cover_from k r t ≡ no_position
unfolding covers cover_from
missed_from [] t k h = refl
missed_from (m ∷ r) t k h = by (holds m t) h (missed_from r t (suc k))
  where
    by : (b : Bool) → (b || covers r t) ≡ false → (covers r t ≡ false → cover_from (suc k) r t ≡ no_position) → cond b k (cover_from (suc k) r t) ≡ no_position
    by true g rest = clash refl g
    by false g rest = rest g

-- ---- the place

module _ (r : List ℕ) (t : ℕ) where
  pub place_found : covers r t ≡ true → First r t (cover_place r t)
  unfolding cover_place
  place_found h =
      let z = found_from r t 0 h in
      let e : z.0 ≡ cover_from 0 r t = omega (arith, z.1) in
      subst (First r t) e z.2

  pub place_missed : covers r t ≡ false → cover_place r t ≡ no_position
  unfolding cover_place
  place_missed h = missed_from r t 0 h

  -- no rule has so many mixtures that a place could be taken for none
  pub place_covers : length r ≤ no_position → covers r t ≡ not (eqb (cover_place r t) no_position)
  place_covers l = ⊎_elim yes no (decide (covers r t))
    where
      yes : covers r t ≡ true → covers r t ≡ not (eqb (cover_place r t) no_position)
      yes h =
          let f : First r t (cover_place r t) = place_found h in
          rw (h, ne_eqb (cover_place r t) no_position (λ e. omega (arith, f.inside, e)))

      no : covers r t ≡ false → covers r t ≡ not (eqb (cover_place r t) no_position)
      no h = rw (h, eq-eqb (cover_place r t) no_position (place_missed h))

  pub place_tells : length r ≤ mixture_limit → (k : ℕ) → k ≡ cover_place r t → not (eqb k no_position) ≡ covers r t
  place_tells l k e = ap (λ (x : ℕ). not (eqb x no_position)) e ∙ sym (place_covers (omega arith))

  pub place_limit : length r ≤ no_position → cover_place r t ≤ no_position
  place_limit l = ⊎_elim (λ h. omega (arith, (place_found h).inside)) (λ h. omega (arith, place_missed h)) (decide (covers r t))

-- "in ascending order": it is the least of those that hold the tag
first_least : (r : List ℕ) (t i m : ℕ) → Ascending r → First r t i → elem m r ≡ true → holds m t ≡ true → get_or r i 0 ≤ m
first_least [] t i m a f e h = elem_none m e
first_least (n ∷ r) t zero m a f e h = ⊎_elim (λ q. omega (arith, q)) (λ q. omega (arith, a.0 m q)) (elem_cases m n r e)
first_least (n ∷ r) t (suc i) m a f e h =
    ⊎_elim (λ q. clash (ap (λ (x : ℕ). holds x t) (sym q) ∙ h) (f.before 0 (omega arith))) (λ q. first_least r t i m a.1 (first_rest n r t i f) q h) (elem_cases m n r e)

pub place_least : (r : List ℕ) (t m : ℕ) → Ascending r → covers r t ≡ true → elem m r ≡ true → holds m t ≡ true → get_or r (cover_place r t) 0 ≤ m
place_least r t m a c e h = first_least r t (cover_place r t) m a (place_found r t c) e h

-- every mixture holds the empty tag
pub place_empty : (r : List ℕ) → cover_place r 0 ≡ cond (eqb (length r) 0) no_position 0
unfolding cover_place cover_from
place_empty [] = refl
place_empty (m ∷ r) = rw (holds_empty m, ne_eqb (suc (length r)) 0 (λ e. omega arith))

-- ---- a rule that is read one mixture at a time

place_next : (r : List ℕ) (i t : ℕ) → i < length r → cover_from i (drop i r) t ≡ cond (holds (get_or r i 0) t) i (cover_from (i + 1) (drop (i + 1) r) t)
unfolding cover_from
place_next r i t h = rw (add-one, drop-cons r i 0)

pub place_start : (r : List ℕ) (t : ℕ) → cover_from 0 (drop 0 r) t ≡ cover_place r t
unfolding cover_place
place_start r t = refl

module _ (r : List ℕ) (i t : ℕ) (inv : cover_from i (drop i r) t ≡ cover_place r t) where
  pub place_here : i < length r → bit_and (get_or r i 0) t ≡ t → i ≡ cover_place r t
  place_here h e = sym (rw (holds_is (get_or r i 0) t e) at (place_next r i t h)) ∙ inv

  pub place_passed : i < length r → (bit_and (get_or r i 0) t ≡ t → ⊥) → cover_from (i + 1) (drop (i + 1) r) t ≡ cover_place r t
  place_passed h e = sym (rw (holds_not (get_or r i 0) t e) at (place_next r i t h)) ∙ inv

  pub place_none : length r ≤ i → no_position ≡ cover_place r t
  place_none h = unfold cover_from in (rw (drop_of_length-le r h) at inv)
