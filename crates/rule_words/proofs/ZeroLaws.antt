-- The test that words are 0.
use Prim.Native.Nat.{ℕ, zero, suc, ◌+◌, ◌-◌, ◌≤◌, ◌<◌, max}
use mathlib.Core.Path.{◌≡◌, refl, sym, ap, ap₂, ◌∙◌}
use mathlib.Core.Bool.{Bool, true, false, ◌&&◌, and_assoc, and-false, and-true}
use mathlib.Core.List.{List, [], ◌∷◌}
use native.Mathlib.Omega.{arith}
use native.Mathlib.Numerals.{add-one}
use lib.Bits.{bit_or, or_comm}
use lib.Dec.{eqb}
use lib.Pow.{pow_pos}
use lib.ListN.{length, get_or, take, drop, replicate, length-drop, drop_of_length-le}
use lib.Seq.{take_all, drop-cons}
use borrow.Author.Tests.{eqb-true, eq-eqb, ne_eqb}
use Rattle.lists.proofs.Bools.{and_in, and_0, and_1, same_test}
use Rattle.rules.proofs.SetLaws.{atom_or, atom_above, ext}
use Rattle.rules.specs.Sets.{atom}
use Rattle.rule_words.specs.Words.{all_zero}

pub zeros : (n : ℕ) → all_zero (replicate n 0) ≡ true
unfolding all_zero
zeros zero = refl
zeros (suc n) = zeros n

all_zero_lem : (l : List ℕ) → all_zero l ≡ true → ◌≡◌ {A = List ℕ} l (replicate (length l) 0)
unfolding all_zero
all_zero_lem [] h = refl
all_zero_lem (x ∷ l) h = ap₂ ◌∷◌ (eqb-true x 0 (and_0 (eqb x 0) (all_zero l) h)) (all_zero_lem l (and_1 (eqb x 0) h))

pub zero_is : (l : List ℕ) (n : ℕ) → length l ≡ n → all_zero l ≡ true → ◌≡◌ {A = List ℕ} l (replicate n 0)
zero_is l n e h = all_zero_lem l h ∙ ap (λ (k : ℕ). replicate k 0) e

pub drop_zeros : (k n : ℕ) → ◌≡◌ {A = List ℕ} (drop k (replicate n 0)) (replicate (n - k) 0)
drop_zeros zero n = let e : n - 0 ≡ n = omega arith in ap (λ (j : ℕ). replicate j 0) (sym e)
drop_zeros (suc k) zero = let e : 0 - suc k ≡ 0 = omega arith in ap (λ (j : ℕ). replicate j 0) (sym e)
drop_zeros (suc k) (suc n) = let e : suc n - suc k ≡ n - k = omega arith in drop_zeros k n ∙ ap (λ (j : ℕ). replicate j 0) (sym e)

-- ---- the test by a union

-- the union of two sets is empty if both are
or_none : (a b : ℕ) → bit_or a b ≡ 0 → a ≡ 0
or_none a b e = ext a 0 (λ k. let h : atom 0 k ≡ max (atom a k) (atom b k) = ap (λ (x : ℕ). atom x k) (sym e) ∙ atom_or a b k in omega (arith, none k))
  where
    none : (k : ℕ) → atom 0 k ≡ 0
    none k = atom_above 0 k (pow_pos k)

or_zero : (a b : ℕ) → eqb (bit_or a b) 0 ≡ (eqb a 0 && eqb b 0)
or_zero a b =
    same_test (eqb (bit_or a b) 0) (eqb a 0 && eqb b 0)
    (λ h. let e : bit_or a b ≡ 0 = eqb-true (bit_or a b) 0 h in and_in (eq-eqb a 0 (or_none a b e)) (eq-eqb b 0 (or_none b a (or_comm b a ∙ e))))
    (λ h. eq-eqb (bit_or a b) 0 (ap₂ bit_or (eqb-true a 0 (and_0 (eqb a 0) (eqb b 0) h)) (eqb-true b 0 (and_1 (eqb a 0) h))))

zero_turn : (l : List ℕ) (i : ℕ) → i < length l → all_zero (drop i l) ≡ (eqb (get_or l i 0) 0 && all_zero (drop (suc i) l))
unfolding all_zero
zero_turn l i h = rw (drop-cons l i 0)

-- u is the union of the first i words
module _ (l : List ℕ) (u i : ℕ) (inv : (eqb u 0 && all_zero (drop i l)) ≡ all_zero l) where
  pub zero_next : i < length l → (eqb (bit_or u (get_or l i 0)) 0 && all_zero (drop (i + 1) l)) ≡ all_zero l
  zero_next h =
      ap₂ ◌&&◌ (or_zero u (get_or l i 0)) (ap (λ (k : ℕ). all_zero (drop k l)) (add-one i))
      ∙ and_assoc (eqb u 0) (eqb (get_or l i 0) 0) (all_zero (drop (suc i) l))
      ∙ ap (λ (b : Bool). eqb u 0 && b) (sym (zero_turn l i h))
      ∙ inv

  pub zero_ended : length l ≤ i → eqb u 0 ≡ all_zero l
  unfolding all_zero
  zero_ended h = sym (and-true (eqb u 0)) ∙ (rw (drop_of_length-le l h) at inv)

-- ---- the test by a union of words that are named one by one

-- the union of u and the words
abbrev pub union : ℕ → List ℕ → ℕ
union u [] = u
union u (x ∷ l) = union (bit_or u x) l

pub union_zero : (u : ℕ) (l : List ℕ) → eqb (union u l) 0 ≡ all_zero (u ∷ l)
unfolding all_zero
union_zero u [] = sym (and-true (eqb u 0))
union_zero u (x ∷ l) =
    union_zero (bit_or u x) l ∙ ap (λ (t : Bool). t && all_zero l) (or_zero u x) ∙ and_assoc (eqb u 0) (eqb x 0) (all_zero l)

-- the words of two lists by turns
abbrev pub by_turns : List ℕ → List ℕ → List ℕ
by_turns [] m = m
by_turns (x ∷ l) [] = x ∷ l
by_turns (x ∷ l) (y ∷ m) = x ∷ y ∷ by_turns l m

turns_zero : (l m : List ℕ) → all_zero (by_turns l m) ≡ (all_zero l && all_zero m)
unfolding all_zero
turns_zero [] m = refl
turns_zero (x ∷ l) [] = sym (and-true (eqb x 0 && all_zero l))
turns_zero (x ∷ l) (y ∷ m) = ap (λ (t : Bool). eqb x 0 && (eqb y 0 && t)) (turns_zero l m) ∙ both (eqb x 0) (eqb y 0) (all_zero l) (all_zero m)
  where
    both : (a b c d : Bool) → (a && (b && (c && d))) ≡ ((a && c) && (b && d))
    both false b c d = refl
    both true true c d = refl
    both true false c d = sym (and-false c)

-- n words from the place k on, every other one
abbrev pub every_other : List ℕ → ℕ → ℕ → List ℕ
every_other ws k zero = []
every_other ws k (suc n) = get_or ws k 0 ∷ every_other ws (suc (suc k)) n

-- the words from k on in two unions: one is not 0, or both are
module _ (ws : List ℕ) (k n m : ℕ) (e : drop k ws ≡ by_turns (every_other ws k (suc n)) (every_other ws (suc k) (suc m))) where
  abbrev pub first : ℕ
  first = union (get_or ws k 0) (every_other ws (suc (suc k)) n)

  abbrev pub second : ℕ
  second = union (get_or ws (suc k) 0) (every_other ws (suc (suc (suc k))) m)

  in_two : all_zero (drop k ws) ≡ (eqb first 0 && eqb second 0)
  in_two =
      ap all_zero e
      ∙ turns_zero (every_other ws k (suc n)) (every_other ws (suc k) (suc m))
      ∙ sym (ap₂ ◌&&◌ (union_zero (get_or ws k 0) (every_other ws (suc (suc k)) n)) (union_zero (get_or ws (suc k) 0) (every_other ws (suc (suc (suc k))) m)))

  pub first_not : (first ≡ 0 → ⊥) → all_zero (drop k ws) ≡ false
  first_not h = in_two ∙ ap (λ (t : Bool). t && eqb second 0) (ne_eqb first 0 h)

  pub second_not : first ≡ 0 → (second ≡ 0 → ⊥) → all_zero (drop k ws) ≡ false
  second_not z h = in_two ∙ ap₂ ◌&&◌ (eq-eqb first 0 z) (ne_eqb second 0 h)

  pub both_zero : first ≡ 0 → second ≡ 0 → all_zero (drop k ws) ≡ true
  both_zero z y = in_two ∙ ap₂ ◌&&◌ (eq-eqb first 0 z) (eq-eqb second 0 y)

-- the words from k on, as they are lent
pub zero_part : (ws : List ℕ) (k : ℕ) → all_zero (take (length ws - k) (drop k ws)) ≡ all_zero (drop k ws)
zero_part ws k = ap all_zero (take_all (length ws - k) (drop k ws) (omega (arith, length-drop k ws)))
