-- Bits of rows as tests.
use Prim.Native.Nat.{ℕ, zero, suc, ◌+◌, ◌-◌, ◌*◌, ◌/◌, ◌%◌, ◌^◌, ◌≤◌, ◌<◌}
use mathlib.Core.Path.{◌≡◌, refl, sym, ap, ap₂, ◌∙◌}
use mathlib.Core.Bool.{Bool, true, false, not, cond, ◌&&◌, ◌||◌}
use mathlib.Core.Logic.{◌⊎◌, inl, inr}
use native.Mathlib.Decide.{ℕ_discrete, dec_lt}
use native.Mathlib.Nat.{lt_of_lt_of_le, div-one, one-mul, mod-eq_of_lt}
use native.Mathlib.Omega.{arith}
use lib.Pow.{shr-shr, pow_mono, pow-lt}
use lib.Bits.{bit_and, bit_or}
use lib.Dec.{eqb}
use borrow.Author.Tests.{eqb-true, eq-eqb, eqb-false, ne_eqb}
use Rattle.rules.specs.Sets.{atom}
use Rattle.rules.proofs.SetLaws.{atom_le, atom_and, atom_or, atom_above, single_same, single_other, ext}
use Rattle.lists.proofs.Bools.{decide, or_none}
use Rattle.matrix.specs.Limits.{object_limit}
use Rattle.matrix.specs.Flows.{has}
use Rattle.matrix.specs.Rows.{bits_of}

-- the test, as code makes it
pub has_is : (row k : ℕ) → row / 2 ^ k % 2 ≡ 1 → has row k ≡ true
unfolding has atom
has_is row k e = eq-eqb (row / 2 ^ k % 2) 1 e

pub has_not : (row k : ℕ) → (row / 2 ^ k % 2 ≡ 1 → ⊥) → has row k ≡ false
unfolding has atom
has_not row k e = ne_eqb (row / 2 ^ k % 2) 1 e

pub has_atom : (row k : ℕ) → has row k ≡ true → atom row k ≡ 1
unfolding has
has_atom row k h = eqb-true (atom row k) 1 h

pub atom_has : (row k : ℕ) → atom row k ≡ 1 → has row k ≡ true
unfolding has
atom_has row k h = eq-eqb (atom row k) 1 h

pub has_none : (row k : ℕ) → has row k ≡ false → atom row k ≡ 0
unfolding has
has_none row k h = by (ℕ_discrete (atom row k) 1)
  where
    by : Dec (atom row k ≡ 1) → atom row k ≡ 0
    by (yes e) = absurd (eqb-false (atom row k) 1 h e)
    by (no e) = omega (arith, atom_le row k)

none_has : (row k : ℕ) → atom row k ≡ 0 → has row k ≡ false
unfolding has
none_has row k h = ne_eqb (atom row k) 1 (λ e. omega arith)

pub has_or : (a b k : ℕ) → has (bit_or a b) k ≡ (has a k || has b k)
has_or a b k = by (decide (has a k)) (decide (has b k))
  where
    by : (has a k ≡ true) ⊎ (has a k ≡ false) → (has b k ≡ true) ⊎ (has b k ≡ false) → has (bit_or a b) k ≡ (has a k || has b k)
    by (inl p) q = rw p (atom_has (bit_or a b) k (omega (arith, atom_or a b k, has_atom a k p, atom_le b k)))
    by (inr p) (inl q) = rw (p, q) (atom_has (bit_or a b) k (omega (arith, atom_or a b k, has_atom b k q, has_none a k p)))
    by (inr p) (inr q) = rw (p, q) (none_has (bit_or a b) k (omega (arith, atom_or a b k, has_none b k q, has_none a k p)))

-- the row of object a alone, as code makes it
pub one_bit : (a : ℕ) → a < object_limit → 1 * 2 ^ a % 2 ^ 32 ≡ 2 ^ a
one_bit a h = ap (λ (x : ℕ). x % 2 ^ 32) (one-mul (2 ^ a)) ∙ mod-eq_of_lt (pow-lt h)

-- a row with the single bit a
pub has_single : (a k : ℕ) → has (2 ^ a) k ≡ eqb a k
has_single a k = by (ℕ_discrete k a)
  where
    by : Dec (k ≡ a) → has (2 ^ a) k ≡ eqb a k
    by (yes e) = atom_has (2 ^ a) k (ap (atom (2 ^ a)) e ∙ single_same a) ∙ sym (eq-eqb a k (sym e))
    by (no n) = none_has (2 ^ a) k (single_other a k n) ∙ sym (ne_eqb a k (λ e. n (sym e)))

pub has_above : (row n k : ℕ) → row < 2 ^ n → n ≤ k → has row k ≡ false
has_above row n k h l = none_has row k (atom_above row k (lt_of_lt_of_le h (pow_mono l)))

pub has_zero : (k : ℕ) → has 0 k ≡ false
has_zero k = has_above 0 0 k (omega arith) (omega arith)

-- two rows with the same bits are equal
pub has_ext : (a b : ℕ) → ((k : ℕ) → has a k ≡ has b k) → a ≡ b
has_ext a b e = ext a b (λ k. by k (decide (has a k)))
  where
    by : (k : ℕ) → (has a k ≡ true) ⊎ (has a k ≡ false) → atom a k ≡ atom b k
    by k (inl p) = has_atom a k p ∙ sym (has_atom b k (sym (e k) ∙ p))
    by k (inr p) = has_none a k p ∙ sym (has_none b k (sym (e k) ∙ p))

-- a bit that is there is added without effect
pub absorbed : (x s : ℕ) → has x s ≡ true → bit_or x (2 ^ s) ≡ x
absorbed x s h = has_ext (bit_or x (2 ^ s)) x (λ k. has_or x (2 ^ s) k ∙ ap (λ (b : Bool). has x k || b) (has_single s k) ∙ by k (decide (eqb s k)))
  where
    by : (k : ℕ) → (eqb s k ≡ true) ⊎ (eqb s k ≡ false) → (has x k || eqb s k) ≡ has x k
    by k (inl e) = let z : has x k ≡ true = ap (has x) (sym (eqb-true s k e)) ∙ h in rw z
    by k (inr e) = rw e (or_none (has x k))

-- ---- bit 0, and the bits above it

pub has_first : (n : ℕ) → has n 0 ≡ eqb (n % 2) 1
unfolding has atom
has_first n = ap (λ (x : ℕ). eqb (x % 2) 1) (div-one n)

pub has_next : (n k : ℕ) → has n (suc k) ≡ has (n / 2) k
unfolding has atom
has_next n k =
    let e : suc k ≡ 1 + k = omega arith in
    ap (λ (x : ℕ). eqb (x % 2) 1) (ap (λ (x : ℕ). n / 2 ^ x) e ∙ sym (shr-shr n 1 k))

-- a number that is not 0 has a bit
some_bit_of : (w x : ℕ) → x ≤ w → (x ≡ 0 → ⊥) → (k : ℕ) × (has x k ≡ true)
some_bit_of zero x l n = absurd (n (omega arith))
some_bit_of (suc w) x l n = by (ℕ_discrete (x % 2) 1) (λ m z. some_bit_of w (x / 2) m z)
  where
    by : Dec (x % 2 ≡ 1) → (x / 2 ≤ w → (x / 2 ≡ 0 → ⊥) → (k : ℕ) × (has (x / 2) k ≡ true)) → (k : ℕ) × (has x k ≡ true)
    by (yes e) f = (0, has_first x ∙ eq-eqb (x % 2) 1 e)
    by (no e) f = let r = f (omega arith) (λ z. n (omega arith)) in (suc r.0, has_next x r.0 ∙ r.1)

pub some_bit : (x : ℕ) → (x ≡ 0 → ⊥) → (k : ℕ) × (has x k ≡ true)
some_bit x n = some_bit_of x x (omega arith) n

-- ---- the bits that are not set

has_complement : (w g k : ℕ) → g < 2 ^ w → k < w → has (2 ^ w - 1 - g) k ≡ not (has g k)
has_complement zero g k h l = absurd (omega arith)
has_complement (suc w) g zero h l =
    has_first (2 ^ suc w - 1 - g) ∙ by (ℕ_discrete (g % 2) 1) ∙ ap not (sym (has_first g))
  where
    by : Dec (g % 2 ≡ 1) → eqb ((2 ^ suc w - 1 - g) % 2) 1 ≡ not (eqb (g % 2) 1)
    by (yes e) = rw e (ne_eqb ((2 ^ suc w - 1 - g) % 2) 1 (λ q. omega arith))
    by (no e) = rw (ne_eqb (g % 2) 1 e) (eq-eqb ((2 ^ suc w - 1 - g) % 2) 1 (omega arith))
has_complement (suc w) g (suc k) h l =
    let half : (2 ^ suc w - 1 - g) / 2 ≡ 2 ^ w - 1 - g / 2 = omega arith in
    has_next (2 ^ suc w - 1 - g) k ∙ ap (λ (x : ℕ). has x k) half
    ∙ has_complement w (g / 2) k (omega arith) (omega arith)
    ∙ ap not (sym (has_next g k))

pub has_and : (a b k : ℕ) → has (bit_and a b) k ≡ (has a k && has b k)
has_and a b k = by (decide (has a k)) (decide (has b k))
  where
    by : (has a k ≡ true) ⊎ (has a k ≡ false) → (has b k ≡ true) ⊎ (has b k ≡ false) → has (bit_and a b) k ≡ (has a k && has b k)
    by (inr p) q = rw p (none_has (bit_and a b) k (omega (arith, atom_and a b k, has_none a k p)))
    by (inl p) (inl q) = rw (p, q) (atom_has (bit_and a b) k (omega (arith, atom_and a b k, has_atom b k q, has_atom a k p)))
    by (inl p) (inr q) = rw (p, q) (none_has (bit_and a b) k (omega (arith, atom_and a b k, has_none b k q, has_atom a k p)))

-- the bits of a row of w bits that another one lacks
pub has_without : (w a g k : ℕ) → a < 2 ^ w → g < 2 ^ w → has (bit_and a (2 ^ w - 1 - g)) k ≡ (has a k && not (has g k))
has_without w a g k p q = has_and a (2 ^ w - 1 - g) k ∙ by (dec_lt k w)
  where
    by : Dec (k < w) → (has a k && has (2 ^ w - 1 - g) k) ≡ (has a k && not (has g k))
    by (yes l) = ap (λ (x : Bool). has a k && x) (has_complement w g k q l)
    by (no l) = let e : has a k ≡ false = has_above a w k p (omega arith) in rw e

-- the bits from n on
pub has_at : (row n k : ℕ) → has row (n + k) ≡ has (row / 2 ^ n) k
unfolding has atom
has_at row n k = ap (λ (x : ℕ). eqb (x % 2) 1) (sym (shr-shr row n k))

-- ---- the number of given bits

bits_half : (t : Bool) (m : ℕ) → (cond t 1 0 + 2 * m) / 2 ≡ m
bits_half true m = omega arith
bits_half false m = omega arith

bits_first : (t : Bool) (m : ℕ) → eqb ((cond t 1 0 + 2 * m) % 2) 1 ≡ t
bits_first true m = eq-eqb ((1 + 2 * m) % 2) 1 (omega arith)
bits_first false m = ne_eqb ((0 + 2 * m) % 2) 1 (λ q. omega arith)

bits_small : (f : ℕ → Bool) (w : ℕ) → bits_of f w < 2 ^ w
unfolding bits_of
bits_small f zero = omega arith
bits_small f (suc w) = by (f 0) (bits_small (λ k. f (suc k)) w)
  where
    by : (t : Bool) → bits_of (λ k. f (suc k)) w < 2 ^ w → cond t 1 0 + 2 * bits_of (λ k. f (suc k)) w < 2 ^ suc w
    by true h = omega arith
    by false h = omega arith

pub bits_has : (f : ℕ → Bool) (w k : ℕ) → k < w → has (bits_of f w) k ≡ f k
unfolding bits_of
bits_has f zero k l = absurd (omega arith)
bits_has f (suc w) zero l = has_first (cond (f 0) 1 0 + 2 * bits_of (λ k. f (suc k)) w) ∙ bits_first (f 0) (bits_of (λ k. f (suc k)) w)
bits_has f (suc w) (suc k) l =
    has_next (cond (f 0) 1 0 + 2 * bits_of (λ k. f (suc k)) w) k
    ∙ ap (λ (x : ℕ). has x k) (bits_half (f 0) (bits_of (λ k. f (suc k)) w))
    ∙ bits_has (λ k. f (suc k)) w k (omega arith)

pub bits_above : (f : ℕ → Bool) (w k : ℕ) → w ≤ k → has (bits_of f w) k ≡ false
bits_above f w k l = has_above (bits_of f w) w k (bits_small f w) l

-- a number of w bits is the number of its bits
pub bits_is : (x w : ℕ) (f : ℕ → Bool) → x < 2 ^ w → ((k : ℕ) → k < w → has x k ≡ f k) → x ≡ bits_of f w
bits_is x w f h e = has_ext x (bits_of f w) (λ k. by k (dec_lt k w))
  where
    by : (k : ℕ) → Dec (k < w) → has x k ≡ has (bits_of f w) k
    by k (yes l) = e k l ∙ sym (bits_has f w k l)
    by k (no l) = has_above x w k h (omega arith) ∙ sym (bits_above f w k (omega arith))

pub bits_same : (f g : ℕ → Bool) (w : ℕ) → ((k : ℕ) → k < w → f k ≡ g k) → bits_of f w ≡ bits_of g w
unfolding bits_of
bits_same f g zero e = refl
bits_same f g (suc w) e =
    ap₂ (λ (b : Bool) (x : ℕ). cond b 1 0 + 2 * x) (e 0 (omega arith)) (bits_same (λ k. f (suc k)) (λ k. g (suc k)) w (λ k l. e (suc k) (omega arith)))
