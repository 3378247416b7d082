-- Rights: one row of rights within another, and the flows that a right adds when it returns.
use Prim.Native.Nat.{ℕ, zero, suc, ◌^◌, ◌≤◌, ◌<◌}
use mathlib.Core.Path.{◌≡◌, refl, sym, ap, ap₂, ◌∙◌}
use mathlib.Core.Bool.{Bool, true, false, ◌&&◌, ◌||◌}
use mathlib.Core.List.{List, [], ◌∷◌}
use mathlib.Core.Logic.{◌⊎◌, inl, inr, ◌↔◌}
use native.Mathlib.Decide.{ℕ_discrete}
use native.Mathlib.Omega.{arith}
use lib.Bits.{bit_or}
use lib.Dec.{eqb}
use lib.ListN.{length, get_or, set}
use lib.Seq.{get_or-set_same, get_or-set_other}
use borrow.Author.Tests.{eq-eqb, ne_eqb}
use Rattle.rules.specs.Sets.{atom, holds}
use Rattle.rules.proofs.SetLaws.{atom_le, atoms_holds, holds_has}
use Rattle.lists.proofs.Bools.{decide, or_none, or_assoc}
use Rattle.matrix.specs.Flows.{has, subject_carries, granted}
use Rattle.matrix.specs.Rows.{bit_at}
use Rattle.matrix.proofs.RowBits.{has_atom, atom_has, has_none, has_or, has_single}
use Rattle.withdrawals.specs.Judgements.{with_right}
use Rattle.withdrawals.specs.Returns.{with_flows}

-- each bit of the one row is a bit of the other
pub holds_bits : (m t : ℕ) → (holds m t ≡ true) ↔ ((k : ℕ) → has t k ≡ true → has m k ≡ true)
holds_bits m t = (λ h k e. atom_has m k (holds_has m t k h (has_atom t k e)), λ f. atoms_holds m t (λ k. by f k (decide (has t k))))
  where
    by : ((k : ℕ) → has t k ≡ true → has m k ≡ true) → (k : ℕ) → (has t k ≡ true) ⊎ (has t k ≡ false) → atom t k ≤ atom m k
    by f k (inl e) = omega (arith, atom_le t k, has_atom m k (f k e))
    by f k (inr e) = omega (arith, has_none t k e)

-- the right that is put back, and no other
pub right_back : (rows : List ℕ) (s k t j : ℕ) → s < length rows → bit_at (with_right rows s k) t j ≡ (bit_at rows t j || (eqb s t && eqb k j))
unfolding bit_at with_right
right_back rows s k t j l = by (ℕ_discrete t s)
  where
    by : Dec (t ≡ s) → has (get_or (set rows s (bit_or (get_or rows s 0) (2 ^ k))) t 0) j ≡ (has (get_or rows t 0) j || (eqb s t && eqb k j))
    by (yes e) =
        rw (eq-eqb s t (sym e))
        (ap (λ (x : ℕ). has x j) (ap (λ (x : ℕ). get_or (set rows s (bit_or (get_or rows s 0) (2 ^ k))) x 0) e ∙ get_or-set_same rows s (bit_or (get_or rows s 0) (2 ^ k)) 0 l)
        ∙ has_or (get_or rows s 0) (2 ^ k) j
        ∙ ap₂ (λ (x : ℕ) (y : Bool). has (get_or rows x 0) j || y) (sym e) (has_single k j))
    by (no n) =
        rw (ne_eqb s t (λ e. n (sym e)))
        (ap (λ (x : ℕ). has x j) (get_or-set_other rows s t (bit_or (get_or rows s 0) (2 ^ k)) 0 n) ∙ sym (or_none (has (get_or rows t 0) j)))

-- ---- the flows of a matrix to which one right returns

read_joins : (x y z c : Bool) → ((x || y) && z || c) ≡ ((x && z || c) || (y && z))
read_joins true true true c = refl
read_joins true true false c = sym (or_none c)
read_joins true false z c = sym (or_none (z || c))
read_joins false true true true = refl
read_joins false true true false = refl
read_joins false true false c = sym (or_none c)
read_joins false false z c = sym (or_none c)

write_joins : (x y z c : Bool) → (x && (y || z) || c) ≡ ((x && y || c) || (x && z))
write_joins true true z c = refl
write_joins true false true true = refl
write_joins true false true false = refl
write_joins true false false c = sym (or_none c)
write_joins false y z c = sym (or_none c)

carries_read : (reads writes : List ℕ) (s k a b : ℕ) → s < length reads → length writes ≡ length reads
    → subject_carries (with_right reads s k) writes a b ≡ (subject_carries reads writes a b || (has (2 ^ k) a && has (get_or writes s 0) b))
unfolding subject_carries with_right
carries_read [] writes s k a b l e = absurd (omega arith)
carries_read (r ∷ reads) [] s k a b l e = absurd (omega arith)
carries_read (r ∷ reads) (w ∷ writes) zero k a b l e =
    ap (λ (x : Bool). x && has w b || subject_carries reads writes a b) (has_or r (2 ^ k) a)
    ∙ read_joins (has r a) (has (2 ^ k) a) (has w b) (subject_carries reads writes a b)
carries_read (r ∷ reads) (w ∷ writes) (suc s) k a b l e =
    ap (λ (x : Bool). has r a && has w b || x) (carries_read reads writes s k a b (omega arith) (omega arith))
    ∙ sym (or_assoc (has r a && has w b) (subject_carries reads writes a b) (has (2 ^ k) a && has (get_or writes s 0) b))

carries_write : (reads writes : List ℕ) (s k a b : ℕ) → s < length reads → length writes ≡ length reads
    → subject_carries reads (with_right writes s k) a b ≡ (subject_carries reads writes a b || (has (get_or reads s 0) a && has (2 ^ k) b))
unfolding subject_carries with_right
carries_write [] writes s k a b l e = absurd (omega arith)
carries_write (r ∷ reads) [] s k a b l e = absurd (omega arith)
carries_write (r ∷ reads) (w ∷ writes) zero k a b l e =
    ap (λ (x : Bool). has r a && x || subject_carries reads writes a b) (has_or w (2 ^ k) b)
    ∙ write_joins (has r a) (has w b) (has (2 ^ k) b) (subject_carries reads writes a b)
carries_write (r ∷ reads) (w ∷ writes) (suc s) k a b l e =
    ap (λ (x : Bool). has r a && has w b || x) (carries_write reads writes s k a b (omega arith) (omega arith))
    ∙ sym (or_assoc (has r a && has w b) (subject_carries reads writes a b) (has (get_or reads s 0) a && has (2 ^ k) b))

-- a right to read object k adds the flows from k to all that the subject writes
pub granted_read : (reads writes : List ℕ) (s k a b : ℕ) → s < length reads → length writes ≡ length reads
    → granted (with_right reads s k) writes a b ≡ with_flows (granted reads writes) (2 ^ k) (get_or writes s 0) a b
unfolding granted with_flows
granted_read reads writes s k a b l e =
    ap (λ (x : Bool). eqb a b || x) (carries_read reads writes s k a b l e)
    ∙ sym (or_assoc (eqb a b) (subject_carries reads writes a b) (has (2 ^ k) a && has (get_or writes s 0) b))

-- a right to write object k adds the flows from all that the subject reads to k
pub granted_write : (reads writes : List ℕ) (s k a b : ℕ) → s < length reads → length writes ≡ length reads
    → granted reads (with_right writes s k) a b ≡ with_flows (granted reads writes) (get_or reads s 0) (2 ^ k) a b
unfolding granted with_flows
granted_write reads writes s k a b l e =
    ap (λ (x : Bool). eqb a b || x) (carries_write reads writes s k a b l e)
    ∙ sym (or_assoc (eqb a b) (subject_carries reads writes a b) (has (get_or reads s 0) a && has (2 ^ k) b))
