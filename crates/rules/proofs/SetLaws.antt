-- The laws of sets, for any width. Each goes through the atoms, on which `bit_and` is `min` and `bit_or` is `max`.
use Prim.Native.Nat.{ℕ, zero, suc, ◌+◌, ◌*◌, ◌/◌, ◌%◌, ◌^◌, ◌-◌, ◌≤◌, ◌<◌, min, max}
use mathlib.Core.Path.{◌≡◌, refl, sym, ap, ◌∙◌}
use mathlib.Core.Bool.{true, false, ◌&&◌}
use mathlib.Core.Logic.{◌↔◌, ◌⊎◌, inl, inr, ⊎_elim}
use native.Mathlib.Nat.{mod-lt, div-one, div-eq_of_lt, mul-mod_left, mul_assoc, one-mul, zero-div, lt_of_lt_of_le, mod-eq_of_lt, zero-lt-suc}
use native.Mathlib.Decide.{dec_lt, ℕ_discrete}
use native.Mathlib.Omega.{arith}
use lib.Arith.{half_le, digits_mod}
use lib.Pow.{shr-shr, shl-shr, pow_pos, pow-add, pow_mono, pow-lt, field, mod-mod-pow}
use lib.Bits.{bit_and, bit_or, and_step, or_step, and_shr, or_shr, and_le_l, and_comm, or_mod, and_mask}
use lib.Dec.{eqb}
use borrow.Author.Tests.{eqb-true, eq-eqb, ne_eqb}
use Rattle.lists.proofs.Bools.{and_in, and_0, and_1, same_test}
use Rattle.rules.specs.Sets.{atom, holds, data_of, running_of}

-- ---- atoms

pub atom_le : (m k : ℕ) → atom m k ≤ 1
unfolding atom
atom_le m k = omega arith

pub atom_and : (a b k : ℕ) → atom (bit_and a b) k ≡ min (atom a k) (atom b k)
unfolding atom
atom_and a b k =
    ap (λ (x : ℕ). x % 2) (and_shr a b k ∙ and_step (a / 2 ^ k) (b / 2 ^ k))
    ∙ digits_mod (bit_and (a / 2 ^ k / 2) (b / 2 ^ k / 2)) (omega arith)

pub atom_or : (a b k : ℕ) → atom (bit_or a b) k ≡ max (atom a k) (atom b k)
unfolding atom
atom_or a b k =
    ap (λ (x : ℕ). x % 2) (or_shr a b k ∙ or_step (a / 2 ^ k) (b / 2 ^ k))
    ∙ digits_mod (bit_or (a / 2 ^ k / 2) (b / 2 ^ k / 2)) (omega arith)

atom_half : (m k : ℕ) → atom (m / 2) k ≡ atom m (1 + k)
unfolding atom
atom_half m k = ap (λ (x : ℕ). x % 2) (shr-shr m 1 k)

atom_first : (m : ℕ) → atom m 0 ≡ m % 2
unfolding atom
atom_first m = ap (λ (x : ℕ). x % 2) (div-one m)

-- two numbers with the same atoms are equal
ext_to : (n a b : ℕ) → a ≤ n → b ≤ n → ((k : ℕ) → atom a k ≡ atom b k) → a ≡ b
ext_to zero a b p q e = omega arith
ext_to (suc n) a b p q e =
    let h : a / 2 ≡ b / 2 = ext_to n (a / 2) (b / 2) (half_le p) (half_le q) (λ k. atom_half a k ∙ e (1 + k) ∙ sym (atom_half b k)) in
    let l : a % 2 ≡ b % 2 = sym (atom_first a) ∙ e 0 ∙ atom_first b in
    omega arith

pub ext : (a b : ℕ) → ((k : ℕ) → atom a k ≡ atom b k) → a ≡ b
ext a b = ext_to (a + b) a b (omega arith) (omega arith)

atom_zero : (k : ℕ) → atom 0 k ≡ 0
unfolding atom
atom_zero k = ap (λ (x : ℕ). x % 2) (zero-div (2 ^ k))

one_first : atom 1 0 ≡ 1
unfolding atom
one_first = refl

-- ---- holds

pub holds_atoms : (m t : ℕ) → holds m t ≡ true → (k : ℕ) → atom t k ≤ atom m k
unfolding holds
holds_atoms m t h k = omega (arith, ap (λ (x : ℕ). atom x k) (eqb-true (bit_and m t) t h), atom_and m t k)

pub atoms_holds : (m t : ℕ) → ((k : ℕ) → atom t k ≤ atom m k) → holds m t ≡ true
unfolding holds
atoms_holds m t h = eq-eqb (bit_and m t) t (ext (bit_and m t) t (λ k. omega (arith, h k, atom_and m t k)))

-- the test, as code makes it
pub holds_is : (m t : ℕ) → bit_and m t ≡ t → holds m t ≡ true
unfolding holds
holds_is m t e = eq-eqb (bit_and m t) t e

pub holds_not : (m t : ℕ) → (bit_and m t ≡ t → ⊥) → holds m t ≡ false
unfolding holds
holds_not m t e = ne_eqb (bit_and m t) t e

pub holds_refl : (m : ℕ) → holds m m ≡ true
holds_refl m = atoms_holds m m (λ k. omega arith)

pub holds_trans : (a b c : ℕ) → holds a b ≡ true → holds b c ≡ true → holds a c ≡ true
holds_trans a b c p q = atoms_holds a c (λ k. omega (arith, holds_atoms a b p k, holds_atoms b c q k))

pub holds_antisym : (a b : ℕ) → holds a b ≡ true → holds b a ≡ true → a ≡ b
holds_antisym a b p q = ext a b (λ k. omega (arith, holds_atoms a b p k, holds_atoms b a q k))

-- a set is at least as large a number as each of its subsets
pub holds_le : (m t : ℕ) → holds m t ≡ true → t ≤ m
unfolding holds
holds_le m t h = omega (arith, and_le_l m t, eqb-true (bit_and m t) t h)

-- a subset of the intersection is one of both
pub holds_and : (a b t : ℕ) → holds (bit_and a b) t ≡ holds a t && holds b t
holds_and a b t =
    same_test (holds (bit_and a b) t) (holds a t && holds b t)
    (λ h. and_in (atoms_holds a t (λ k. omega (arith, holds_atoms (bit_and a b) t h k, atom_and a b k))) (atoms_holds b t (λ k. omega (arith, holds_atoms (bit_and a b) t h k, atom_and a b k))))
    (λ h. atoms_holds (bit_and a b) t (λ k. omega (arith, holds_atoms a t (and_0 (holds a t) (holds b t) h) k, holds_atoms b t (and_1 (holds a t) h) k, atom_and a b k)))

-- a union is a subset where both are
pub holds_or : (m s t : ℕ) → holds m (bit_or s t) ≡ holds m s && holds m t
holds_or m s t =
    same_test (holds m (bit_or s t)) (holds m s && holds m t)
    (λ h. and_in (atoms_holds m s (λ k. omega (arith, holds_atoms m (bit_or s t) h k, atom_or s t k))) (atoms_holds m t (λ k. omega (arith, holds_atoms m (bit_or s t) h k, atom_or s t k))))
    (λ h. atoms_holds m (bit_or s t) (λ k. omega (arith, holds_atoms m s (and_0 (holds m s) (holds m t) h) k, holds_atoms m t (and_1 (holds m s) h) k, atom_or s t k)))

pub holds_empty : (m : ℕ) → holds m 0 ≡ true
holds_empty m = atoms_holds m 0 (λ k. omega (arith, atom_zero k))

-- the set of all of the first w atoms
pub and_all : (w t : ℕ) → t < 2 ^ w → bit_and t (2 ^ w - 1) ≡ t
and_all w t h = and_mask t w ∙ mod-eq_of_lt h

pub holds_all : (w t : ℕ) → t < 2 ^ w → holds (2 ^ w - 1) t ≡ true
unfolding holds
holds_all w t h = eq-eqb (bit_and (2 ^ w - 1) t) t (and_comm (2 ^ w - 1) t ∙ and_all w t h)

-- ---- the atoms of a shifted set, of a single atom, of the data atoms and of the twins

-- atom k is in the low 1 + k digits
atom_low : (m k : ℕ) → atom m k ≡ m % 2 ^ (1 + k) / 2 ^ k
unfolding atom
atom_low m k = sym (field m 1 k)

pub atom_above : (m k : ℕ) → m < 2 ^ k → atom m k ≡ 0
unfolding atom
atom_above m k h = ap (λ (x : ℕ). x % 2) (div-eq_of_lt h)

pub atom_shifted : (m w k : ℕ) → atom (m * 2 ^ w) (w + k) ≡ atom m k
unfolding atom
atom_shifted m w k = ap (λ (x : ℕ). x % 2) (sym (shr-shr (m * 2 ^ w) w k) ∙ ap (λ (x : ℕ). x / 2 ^ k) (shl-shr m w))

pub atom_below : (m w k : ℕ) → k < w → atom (m * 2 ^ w) k ≡ 0
atom_below m w k h =
    atom_low (m * 2 ^ w) k
    ∙ ap (λ (x : ℕ). x / 2 ^ k)
    (ap (λ (x : ℕ). m * 2 ^ x % 2 ^ (1 + k)) (omega arith)
    ∙ ap (λ (x : ℕ). m * x % 2 ^ (1 + k)) (pow-add 2 (w - (1 + k)) (1 + k))
    ∙ ap (λ (x : ℕ). x % 2 ^ (1 + k)) (sym (mul_assoc m (2 ^ (w - (1 + k))) (2 ^ (1 + k))))
    ∙ mul-mod_left (m * 2 ^ (w - (1 + k))) (2 ^ (1 + k)))
    ∙ zero-div (2 ^ k)

pub data_atom_lem : (w t k : ℕ) → k < w → atom (data_of w t) k ≡ atom t k
unfolding data_of
data_atom_lem w t k h =
    atom_low (t % 2 ^ w) k
    ∙ ap (λ (x : ℕ). x / 2 ^ k) (ap (λ (x : ℕ). t % 2 ^ x % 2 ^ (1 + k)) (omega arith) ∙ mod-mod-pow t (w - (1 + k)) (1 + k))
    ∙ sym (atom_low t k)

pub data_none : (w t k : ℕ) → w ≤ k → atom (data_of w t) k ≡ 0
unfolding data_of
data_none w t k h = atom_above (t % 2 ^ w) k (lt_of_lt_of_le (mod-lt t (pow_pos w)) (pow_mono h))

pub running_atom_lem : (w t k : ℕ) → k < w → atom (running_of w t) (w + k) ≡ atom t k
unfolding running_of
running_atom_lem w t k h = atom_shifted (data_of w t) w k ∙ data_atom_lem w t k h

pub running_none_below : (w t k : ℕ) → k < w → atom (running_of w t) k ≡ 0
unfolding running_of
running_none_below w t k h = atom_below (data_of w t) w k h

pub running_none_above : (w t k : ℕ) → w ≤ k → atom (running_of w t) (w + k) ≡ 0
unfolding running_of
running_none_above w t k h = atom_shifted (data_of w t) w k ∙ data_none w t k h

-- a single atom
pub single_same : (k : ℕ) → atom (2 ^ k) k ≡ 1
single_same k = rw (← one-mul (2 ^ k)) (ap (λ (x : ℕ). atom (1 * 2 ^ k) x) (omega arith) ∙ atom_shifted 1 k 0 ∙ one_first)

pub single_other : (k j : ℕ) → (j ≡ k → ⊥) → atom (2 ^ k) j ≡ 0
single_other k j h = rw (← one-mul (2 ^ k)) (by (dec_lt j k))
  where
    by : Dec (j < k) → atom (1 * 2 ^ k) j ≡ 0
    by (yes l) = atom_below 1 k j l
    by (no l) =
        let e : j ≡ k + suc (j - suc k) = omega arith in
        rw e (atom_shifted 1 k (suc (j - suc k)) ∙ atom_above 1 (suc (j - suc k)) (pow-lt (zero-lt-suc (j - suc k))))

-- membership of an atom, as a subset of one
pub holds_single : (m k : ℕ) → holds m (2 ^ k) ≡ eqb (atom m k) 1
holds_single m k =
    same_test (holds m (2 ^ k)) (eqb (atom m k) 1)
    (λ h. eq-eqb (atom m k) 1 (omega (arith, holds_atoms m (2 ^ k) h k, single_same k, atom_le m k)))
    (λ h. atoms_holds m (2 ^ k) (λ j. by h j (ℕ_discrete j k)))
  where
    by : eqb (atom m k) 1 ≡ true → (j : ℕ) → Dec (j ≡ k) → atom (2 ^ k) j ≤ atom m j
    by h j (yes e) = rw e (omega (arith, eqb-true (atom m k) 1 h, single_same k))
    by h j (no n) = omega (arith, single_other k j n)

-- the data atoms and the twins of a union
pub data_or : (w s t : ℕ) → data_of w (bit_or s t) ≡ bit_or (data_of w s) (data_of w t)
unfolding data_of
data_or w s t = or_mod s t w

-- ---- membership, as statements about chains want it

pub or_has : (a b k : ℕ) → (atom (bit_or a b) k ≡ 1) ↔ ((atom a k ≡ 1) ⊎ (atom b k ≡ 1))
or_has a b k = (to (ℕ_discrete (atom a k) 1), ⊎_elim (λ h. omega (arith, atom_or a b k, atom_le b k)) (λ h. omega (arith, atom_or a b k, atom_le a k)))
  where
    to : Dec (atom a k ≡ 1) → atom (bit_or a b) k ≡ 1 → (atom a k ≡ 1) ⊎ (atom b k ≡ 1)
    to (yes h) e = inl h
    to (no h) e = inr (omega (arith, atom_or a b k, atom_le a k, atom_le b k))

pub data_has : (w t k : ℕ) → (atom (data_of w t) k ≡ 1) ↔ ((k < w) × (atom t k ≡ 1))
data_has w t k = (to (dec_lt k w), λ h. data_atom_lem w t k h.0 ∙ h.1)
  where
    to : Dec (k < w) → atom (data_of w t) k ≡ 1 → (k < w) × (atom t k ≡ 1)
    to (yes h) e = (h, sym (data_atom_lem w t k h) ∙ e)
    to (no h) e = absurd (omega (arith, data_none w t k (omega arith)))

pub running_has : (w t k : ℕ) → (atom (running_of w t) k ≡ 1) ↔ ((d : ℕ) × (k ≡ w + d) × (d < w) × (atom t d ≡ 1))
running_has w t k = (to (dec_lt k w) (dec_lt (k - w) w), λ h. ap (atom (running_of w t)) h.1 ∙ running_atom_lem w t h.0 h.2 ∙ h.3)
  where
    to : Dec (k < w) → Dec (k - w < w) → atom (running_of w t) k ≡ 1 → (d : ℕ) × (k ≡ w + d) × (d < w) × (atom t d ≡ 1)
    to (yes h) l e = absurd (omega (arith, running_none_below w t k h))
    to (no h) (yes l) e =
        let q : k ≡ w + (k - w) = omega arith in
        (k - w, q, l, sym (running_atom_lem w t (k - w) l) ∙ ap (atom (running_of w t)) (sym q) ∙ e)
    to (no h) (no l) e =
        let q : k ≡ w + (k - w) = omega arith in
        absurd (omega (arith, running_none_above w t (k - w) (omega arith), ap (atom (running_of w t)) q))

-- a subset has no other atoms
pub holds_has : (m t k : ℕ) → holds m t ≡ true → atom t k ≡ 1 → atom m k ≡ 1
holds_has m t k h e = omega (arith, holds_atoms m t h k, atom_le m k)
