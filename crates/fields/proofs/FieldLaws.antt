-- Fields: read byte by byte, in a record, one behind the other.
use Prim.Native.Nat.{ℕ, zero, suc, ◌+◌, ◌*◌, ◌^◌, ◌≤◌, ◌<◌}
use mathlib.Core.Path.{◌≡◌, refl, sym, ap, ◌∙◌}
use mathlib.Core.List.{List, [], ◌∷◌, ◌++◌}
use native.Mathlib.Omega.{arith}
use native.Mathlib.Nat.{mul_assoc, pow-succ'}
use native.Mathlib.Numerals.{add-one}
use lib.ListN.{length, get_or, take, drop, length-drop}
use lib.Seq.{drop-cons, drop-drop, take-take, take-add, length-take-le}
use Rattle.fields.specs.Bytes.{number_in, field}

pub field_one : (s : List ℕ) (at : ℕ) → at + 1 ≤ length s → get_or s at 0 ≡ field s at 1
unfolding field number_in
field_one s at h = let l : at < length s = omega arith in rw (drop-cons s at 0 l) (omega arith)

pub field_two : (s : List ℕ) (at : ℕ) → at + 2 ≤ length s → get_or s at 0 + 256 * get_or s (at + 1) 0 ≡ field s at 2
unfolding field number_in
field_two s at h =
    let l : at < length s = omega arith in
    let k : suc at < length s = omega arith in
    rw (add-one, drop-cons s at 0 l, drop-cons s (suc at) 0 k) (omega arith)

-- a field of a record is a field of the section
pub take_mid : (l : List ℕ) (w k v : ℕ) → k + v ≤ w → take v (drop k (take w l)) ≡ take v (drop k l)
take_mid l w zero v h = take-take v w l (omega arith)
take_mid [] zero (suc k) v h = refl
take_mid [] (suc w) (suc k) v h = refl
take_mid (x ∷ l) zero (suc k) v h = absurd (omega arith)
take_mid (x ∷ l) (suc w) (suc k) v h = take_mid l w k v (omega arith)

pub field_record : (s : List ℕ) (at w k v : ℕ) → k + v ≤ w → field (take w (drop at s)) k v ≡ field s (at + k) v
unfolding field
field_record s at w k v h = ap number_in (take_mid (drop at s) w k v h ∙ ap (take v) (drop-drop k at s))

-- ---- fields, one behind the other

number_append : (p q : List ℕ) → number_in (p ++ q) ≡ number_in p + 256 ^ length p * number_in q
unfolding number_in
number_append [] q = omega arith
number_append (b ∷ p) q =
    let e : 256 ^ suc (length p) * number_in q ≡ 256 * (256 ^ length p * number_in q) = rw (pow-succ' 256 (length p), mul_assoc) in
    omega (arith, number_append p q)

pub field_split : (s : List ℕ) (at a b : ℕ) → at + a ≤ length s → field s at a + 256 ^ a * field s (at + a) b ≡ field s at (a + b)
unfolding field
field_split s at a b h =
    let l : length (take a (drop at s)) ≡ a = length-take-le a (drop at s) (omega (arith, length-drop at s)) in
    sym (ap number_in (take-add a b (drop at s)) ∙ number_append (take a (drop at s)) (take b (drop a (drop at s))) ∙ rw (l, drop-drop))

-- ---- the bytes of wider fields

pub field_four : (s : List ℕ) (at : ℕ) → at + 4 ≤ length s
    → get_or s at 0 + 256 * get_or s (at + 1) 0 + 65536 * get_or s (at + 2) 0 + 16777216 * get_or s (at + 3) 0 ≡ field s at 4
field_four s at h =
    let high : get_or s (at + 2) 0 + 256 * get_or s (at + 3) 0 ≡ field s (at + 2) 2 = rw (← add-three at) (field_two s (at + 2) (omega arith)) in
    omega (arith, field_split s at 2 2 (omega arith), field_two s at (omega arith), high)
  where
    add-three : (n : ℕ) → n + 2 + 1 ≡ n + 3
    add-three n = omega arith

pub field_eight : (s : List ℕ) (at : ℕ) → at + 8 ≤ length s
    → get_or s at 0 + 256 * get_or s (at + 1) 0 + 65536 * get_or s (at + 2) 0 + 16777216 * get_or s (at + 3) 0
    + 4294967296 * get_or s (at + 4) 0 + 1099511627776 * get_or s (at + 5) 0 + 281474976710656 * get_or s (at + 6) 0
    + 72057594037927936 * get_or s (at + 7) 0 ≡ field s at 8
field_eight s at h =
    let high : get_or s (at + 4) 0 + 256 * get_or s (at + 5) 0 + 65536 * get_or s (at + 6) 0 + 16777216 * get_or s (at + 7) 0 ≡ field s (at + 4) 4 =
    rw (← behind at 1, ← behind at 2, ← behind at 3) (field_four s (at + 4) (omega arith)) in
    omega (arith, field_split s at 4 4 (omega arith), field_four s at (omega arith), high)
  where
    behind : (n k : ℕ) → n + 4 + k ≡ n + (4 + k)
    behind n k = omega arith
