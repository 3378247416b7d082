-- The intersections place by place, where they are the meet: one rule is within the other, or the rules are alike.
use Prim.Native.Nat.{ℕ, zero, suc, ◌≤◌, ◌<◌}
use mathlib.Core.Path.{◌≡◌, refl, sym, ap, ◌∙◌}
use mathlib.Core.Bool.{true, false, not, ◌&&◌, ◌||◌}
use mathlib.Core.List.{List, [], ◌∷◌}
use mathlib.Core.Logic.{◌⊎◌, inl, inr, ⊎_elim}
use native.Mathlib.Omega.{arith}
use native.Mathlib.Decide.{dec_le}
use lib.Bits.{bit_and, bit_or, and_comm, and_zero_l, and_zero_r, and_le_l, and_le_r, or_add_and}
use lib.Dec.{eqb, ltb}
use lib.ListN.{length, get_or}
use lib.Seq.{ext_get_or}
use borrow.Author.Tests.{eqb-true, ne_eqb, ltb-true, lt-ltb, le-ltb, not-true}
use Rattle.lists.proofs.Bools.{and_in, and_0, and_1, or_0, or_cases, or_none, clash, same_test}
use Rattle.lists.proofs.Elem.{elem_none, elem_here, elem_cases}
use Rattle.lists.proofs.Below.{all_at, all_in}
use Rattle.lists.specs.Lists.{elem}
use Rattle.rules.specs.Sets.{holds}
use Rattle.rules.specs.Order.{Ascending, Antichain}
use Rattle.rules.specs.Rules.{covers, normal, intersections, meet, refines}
use Rattle.rules.specs.Placewise.{placewise, within, held_apart, pair_apart, apart, alike}
use Rattle.rules.proofs.SetLaws.{holds_is, holds_not, holds_trans, holds_le, holds_and, holds_empty}
use Rattle.rules.proofs.RuleLaws.{covers_by, covers_at, covers_part, covers_intersections, is_normal_lem}
use Rattle.rules.proofs.CoverLaws.{First, place_found}
use Rattle.rules.proofs.RefineLaws.{covers_refines, refines_meet}

-- ---- one of two mixtures holds a tag

module _ (x y t : ℕ) where
  pub either_first : bit_and x t ≡ t → true ≡ covers (x ∷ y ∷ []) t
  unfolding covers
  either_first e = sym (or_0 (holds x t) (holds y t || false) (holds_is x t e))

  pub either_second : (bit_and x t ≡ t → ⊥) → eqb (bit_and y t) t ≡ covers (x ∷ y ∷ []) t
  unfolding covers holds
  either_second n = rw (ne_eqb (bit_and x t) t n) (sym (or_none (eqb (bit_and y t) t)))

  either_cases : covers (x ∷ y ∷ []) t ≡ true → (holds x t ≡ true) ⊎ (holds y t ≡ true)
  unfolding covers
  either_cases h = ⊎_elim inl (λ q. ⊎_elim inr (λ e. clash e refl) (or_cases (holds y t) q)) (or_cases (holds x t) h)

-- ---- the test of two places, one step after the other

module _ (x y c d : ℕ) where
  pub apart_below : x ≤ y → false ≡ held_apart x y c d
  unfolding held_apart
  apart_below l = rw (le-ltb y x l)

  pub apart_holds : y < x → bit_and x y ≡ y → false ≡ held_apart x y c d
  unfolding held_apart
  apart_holds l e = rw (lt-ltb y x l, holds_is x y e)

  module _ (l : y < x) (n : bit_and x y ≡ y → ⊥) where
    apart_rest : held_apart x y c d ≡ (covers (x ∷ y ∷ []) c && covers (x ∷ y ∷ []) d)
    unfolding held_apart
    apart_rest = rw (lt-ltb y x l, holds_not x y n)

    -- empty intersections are held
    pub apart_empty : bit_or c d ≡ 0 → true ≡ held_apart x y c d
    apart_empty e = sym (apart_rest ∙ and_in (empty c (omega (arith, or_add_and c d, and_le_r c d))) (empty d (omega (arith, or_add_and c d, and_le_l c d))))
      where
        empty : (t : ℕ) → t ≡ 0 → covers (x ∷ y ∷ []) t ≡ true
        empty t z = rw z (covers_by x (x ∷ y ∷ []) 0 (elem_here x (y ∷ [])) (holds_empty x))

    pub apart_first : covers (x ∷ y ∷ []) c ≡ false → false ≡ held_apart x y c d
    apart_first f = sym (rw f at apart_rest)

    pub apart_second : covers (x ∷ y ∷ []) c ≡ true → covers (x ∷ y ∷ []) d ≡ held_apart x y c d
    apart_second f = sym (rw f at apart_rest)

-- the first place has none before it
pub apart_start : (r s : List ℕ) (i : ℕ) → i < 1 → apart r s i ≡ true
unfolding apart
apart_start r s i l = all_in (λ j. pair_apart (get_or r i 0) (get_or s i 0) (get_or r j 0) (get_or s j 0)) i (λ j q. absurd (omega arith))

-- ---- places

-- without a mixture at its place nothing is left
pub placewise_at : (r s : List ℕ) (i : ℕ) → get_or (placewise r s) i 0 ≡ bit_and (get_or r i 0) (get_or s i 0)
unfolding placewise
placewise_at [] s i = sym (and_zero_l (get_or s i 0))
placewise_at (m ∷ r) [] i = sym (and_zero_r (get_or (m ∷ r) i 0))
placewise_at (m ∷ r) (n ∷ s) zero = refl
placewise_at (m ∷ r) (n ∷ s) (suc i) = placewise_at r s i

pub placewise_length : (r s : List ℕ) → length r ≡ length s → length (placewise r s) ≡ length r
unfolding placewise
placewise_length [] s e = refl
placewise_length (m ∷ r) [] e = absurd (omega arith)
placewise_length (m ∷ r) (n ∷ s) e = ap suc (placewise_length r s (omega arith))

elem_place : (m : ℕ) (l : List ℕ) → elem m l ≡ true → (i : ℕ) × (i < length l) × (m ≡ get_or l i 0)
elem_place m [] h = elem_none m h
elem_place m (n ∷ l) h =
    ⊎_elim (λ e. (0, omega arith, e)) (λ q. let z = elem_place m l q in (suc z.0, omega (arith, z.1), z.2)) (elem_cases m n l h)

ascending_places : (l : List ℕ) → ((j i : ℕ) → j < i → i < length l → get_or l j 0 < get_or l i 0) → Ascending l
ascending_places [] f = tt
ascending_places (m ∷ l) f = (
  (λ n h. let z = elem_place n l h in rw z.2 (f 0 (suc z.0) (omega arith) (omega (arith, z.1)))),
  ascending_places l (λ j i p q. f (suc j) (suc i) (omega arith) (omega arith)),
)

-- ---- one rule within the other

module _ (r s : List ℕ) (n : normal r ≡ r) (e : length r ≡ length s) (h : within r s ≡ true) where
  within_at : (i : ℕ) → i < length r → holds (get_or s i 0) (get_or r i 0) ≡ true
  unfolding within
  within_at i l = all_at (λ i. holds (get_or s i 0) (get_or r i 0)) (length r) i h l

  within_smaller : (i : ℕ) → i < length r → bit_and (get_or r i 0) (get_or s i 0) ≡ get_or r i 0
  unfolding holds
  within_smaller i l = and_comm (get_or r i 0) (get_or s i 0) ∙ eqb-true (bit_and (get_or s i 0) (get_or r i 0)) (get_or r i 0) (within_at i l)

  within_same : placewise r s ≡ r
  within_same =
      ext_get_or 0 (placewise r s) r (placewise_length r s e) (λ i l. placewise_at r s i ∙ within_smaller i (omega (arith, placewise_length r s e)))

  within_refines : refines r s ≡ true
  within_refines = covers_refines r s (λ t c. by t (place_found r t c))
    where
      by : (t : ℕ) {i : ℕ} → First r t i → covers s t ≡ true
      by t {i} f = covers_at s i t (omega (arith, f.inside)) (holds_trans (get_or s i 0) (get_or r i 0) t (within_at i f.inside) f.over)

  pub within_meet : placewise r s ≡ meet r s
  within_meet = within_same ∙ refines_meet r s n within_refines

-- ---- alike rules

-- the four intersections of two places
record Apart (x y c d : ℕ) : Type 0 where
  above : y < x
  free : holds x y ≡ false
  first : covers (x ∷ y ∷ []) c ≡ true
  second : covers (x ∷ y ∷ []) d ≡ true

held_apart_lem : (x y c d : ℕ) → held_apart x y c d ≡ true → Apart x y c d
unfolding held_apart
held_apart_lem x y c d h =
    let three : (ltb y x && not (holds x y) && covers (x ∷ y ∷ []) c) ≡ true = and_0 (ltb y x && not (holds x y) && covers (x ∷ y ∷ []) c) (covers (x ∷ y ∷ []) d) h in
    let two : (ltb y x && not (holds x y)) ≡ true = and_0 (ltb y x && not (holds x y)) (covers (x ∷ y ∷ []) c) three in
    record {
      above = ltb-true y x (and_0 (ltb y x) (not (holds x y)) two);
      free = not-true (holds x y) (and_1 (ltb y x) two);
      first = and_1 (ltb y x && not (holds x y)) three;
      second = and_1 (ltb y x && not (holds x y) && covers (x ∷ y ∷ []) c) h;
    }

module _ (r s : List ℕ) (e : length r ≡ length s) (h : alike r s ≡ true) where
  -- the intersection of the mixtures at two places
  abbrev meeting : ℕ → ℕ → ℕ
  meeting i j = bit_and (get_or r i 0) (get_or s j 0)

  alike_at : (j i : ℕ) → j < i → i < length r → Apart (meeting i i) (meeting j j) (meeting i j) (meeting j i)
  unfolding alike apart pair_apart
  alike_at j i p q =
      held_apart_lem (meeting i i) (meeting j j) (meeting i j) (meeting j i)
      (all_at (λ j. pair_apart (get_or r i 0) (get_or s i 0) (get_or r j 0) (get_or s j 0)) i j (all_at (apart r s) (length r) i h q) p)

  alike_ascends : Ascending (placewise r s)
  alike_ascends =
      ascending_places (placewise r s) (λ j i p q. rw (placewise_at r s i, placewise_at r s j) (alike_at j i p (omega (arith, placewise_length r s e))).above)

  -- each intersection is held by the one at the place of one of its two mixtures
  held_at : (i j t : ℕ) → i < length r → j < length r → holds (meeting i j) t ≡ true → (holds (meeting i i) t ≡ true) ⊎ (holds (meeting j j) t ≡ true)
  held_at i j t p q g = by (dec_le i j) (dec_le j i)
    where
      part : (x y : ℕ) → covers (x ∷ y ∷ []) (meeting i j) ≡ true → (holds x t ≡ true) ⊎ (holds y t ≡ true)
      part x y c = either_cases x y t (covers_part (x ∷ y ∷ []) t (meeting i j) g c)

      by : Dec (i ≤ j) → Dec (j ≤ i) → (holds (meeting i i) t ≡ true) ⊎ (holds (meeting j j) t ≡ true)
      by (yes a) (yes b) = let z : i ≡ j = omega arith in inl (ap (λ (k : ℕ). holds (meeting i k) t) z ∙ g)
      by (yes a) (no b) = ⊎_elim inr inl (part (meeting j j) (meeting i i) (alike_at i j (omega arith) q).second)
      by (no a) b = part (meeting i i) (meeting j j) (alike_at j i (omega arith) p).first

  held_placewise : (i t : ℕ) → i < length r → holds (meeting i i) t ≡ true → covers (placewise r s) t ≡ true
  held_placewise i t p g = covers_at (placewise r s) i t (omega (arith, placewise_length r s e)) (ap (λ (m : ℕ). holds m t) (placewise_at r s i) ∙ g)

  alike_covers : (t : ℕ) → covers (placewise r s) t ≡ covers (intersections r s) t
  alike_covers t =
      same_test (covers (placewise r s) t) (covers r t && covers s t) (λ c. out (place_found (placewise r s) t c))
      (λ c. back (place_found r t (and_0 (covers r t) (covers s t) c)) (place_found s t (and_1 (covers r t) c)))
      ∙ sym (covers_intersections r s t)
    where
      out : {i : ℕ} → First (placewise r s) t i → (covers r t && covers s t) ≡ true
      out {i} f =
          let l : i < length r = omega (arith, f.inside, placewise_length r s e) in
          let g : (holds (get_or r i 0) t && holds (get_or s i 0) t) ≡ true
          = sym (holds_and (get_or r i 0) (get_or s i 0) t) ∙ ap (λ (m : ℕ). holds m t) (sym (placewise_at r s i)) ∙ f.over in
          and_in (covers_at r i t l (and_0 (holds (get_or r i 0) t) _ g)) (covers_at s i t (omega arith) (and_1 (holds (get_or r i 0) t) g))

      back : {i j : ℕ} → First r t i → First s t j → covers (placewise r s) t ≡ true
      back {i} {j} f g =
          ⊎_elim (held_placewise i t f.inside) (held_placewise j t (omega (arith, g.inside)))
          (held_at i j t f.inside (omega (arith, g.inside)) (holds_and (get_or r i 0) (get_or s j 0) t ∙ and_in f.over g.over))

  alike_antichain : Antichain (placewise r s)
  alike_antichain m n p q g = by (elem_place m (placewise r s) p) (elem_place n (placewise r s) q)
    where
      by : (i : ℕ) × (i < length (placewise r s)) × (m ≡ get_or (placewise r s) i 0) → (j : ℕ) × (j < length (placewise r s)) × (n ≡ get_or (placewise r s) j 0) → n ≡ m
      by (i, k, a) (j, l, b) = go (dec_le i j) (dec_le j i)
        where
          am : m ≡ meeting i i
          am = a ∙ placewise_at r s i

          bn : n ≡ meeting j j
          bn = b ∙ placewise_at r s j

          go : Dec (i ≤ j) → Dec (j ≤ i) → n ≡ m
          go (yes u) (yes v) = let z : j ≡ i = omega arith in bn ∙ ap (λ (x : ℕ). meeting x x) z ∙ sym am
          go (yes u) (no v) =
              let f : holds (meeting j j) (meeting i i) ≡ true = rw (← am, ← bn) g in
              clash f (alike_at i j (omega arith) (omega (arith, placewise_length r s e))).free
          go (no u) v = absurd (omega (arith, am, bn, holds_le n m g, (alike_at j i (omega arith) (omega (arith, placewise_length r s e))).above))

  pub alike_meet : placewise r s ≡ meet r s
  unfolding meet
  alike_meet = is_normal_lem (placewise r s) (intersections r s) alike_ascends alike_antichain alike_covers
