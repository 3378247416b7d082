-- Sets of moves: those that add a holder, by a test computed over all holders, and those that reach b.
use mathlib.Core.Path.{◌≡◌, refl, sym, ap, ◌∙◌}
use mathlib.Core.Bool.{Bool, true, false, not, cond, ◌&&◌}
use mathlib.Core.Logic.{◌⊎◌, inl, inr}
use mathlib.Core.List.{List, [], ◌∷◌}
use Prim.Native.Nat.{ℕ, ◌+◌, ◌-◌, ◌*◌, ◌/◌, ◌%◌, ◌^◌, ◌≤◌, ◌<◌}
use native.Mathlib.Decide.{dec_lt}
use native.Mathlib.Nat.{lt_of_le_of_lt, mul-le-mul}
use native.Mathlib.Omega.{arith}
use lib.Bits.{bit_and, and_le_r}
use lib.Dec.{eqb, ltb, leb}
use lib.ListN.{get_or}
use borrow.Author.Tests.{eq-eqb, ne_eqb, ltb-true, leb-true, eqb-true}
use Rattle.lists.specs.Counting.{least_below, all_below}
use Rattle.lists.proofs.Bools.{decide, and_0, and_1, clash}
use Rattle.lists.proofs.Below.{none_at, Least, least_some, all_at}
use Rattle.rules.specs.Sets.{atom}
use Rattle.matrix.specs.Flows.{has}
use Rattle.matrix.specs.Rows.{bits_of}
use Rattle.matrix.proofs.RowBits.{has_is, has_not, has_and, has_above, has_ext, has_zero, bits_has, bits_is}
use Rattle.game.specs.declared.Position.{Position}
use Rattle.game.specs.Limits.{side_limit, read_count, right_count}
use Rattle.game.specs.Positions.{subject_of, object_of}
use Rattle.game.specs.Search.{to_first_object, adds, additions, appends_to, reaches_in}

-- ---- the rights to read object 0

-- the table of them, by sets of subjects
abbrev table : List ℕ
table = 0 ∷ 1 ∷ 8 ∷ 9 ∷ 64 ∷ 65 ∷ 72 ∷ 73 ∷ []

tabled : ℕ → Bool
tabled s = eqb (get_or table s 0) (to_first_object s) && leb (get_or table s 0) 73

all_tabled : all_below tabled 8 ≡ true
unfolding all_below tabled to_first_object bits_of has atom subject_of object_of
all_tabled = refl

pub table_is : (s : ℕ) → s < 8 → (get_or table s 0 ≡ to_first_object s) × (get_or table s 0 ≤ 73)
unfolding tabled
table_is s l =
    let h : (eqb (get_or table s 0) (to_first_object s) && leb (get_or table s 0) 73) ≡ true = all_at tabled 8 s all_tabled l in (
      eqb-true (get_or table s 0) (to_first_object s) (and_0 (eqb (get_or table s 0) (to_first_object s)) (leb (get_or table s 0) 73) h),
      leb-true (get_or table s 0) 73 (and_1 (eqb (get_or table s 0) (to_first_object s)) h),
    )

pub reads_fit : (x o : ℕ) → x ≤ 73 → o < 8 → x * o ≤ 511
reads_fit x o h l = let m : o ≤ 7 = omega arith in mul-le-mul h m

pub appends_fit : (x o : ℕ) → x ≤ 73 → x * (7 - o) ≤ 511
appends_fit x o h = let m : 7 - o ≤ 7 = omega arith in mul-le-mul h m

-- ---- the moves that add a holder

-- the set as code makes it, of the subjects s and objects o that hold
unfoldable mask_of : ℕ → ℕ → ℕ
mask_of s o = to_first_object (7 - s) * o + 512 * (to_first_object s * (7 - o))

unfoldable adding : ℕ → ℕ → ℕ → Bool
adding s o k = cond (ltb k read_count) (has o (object_of k) && not (has s (subject_of k))) (has s (subject_of k) && not (has o (object_of k)))

unfoldable pub same : Bool → Bool → Bool
same true b = b
same false b = not b

pub same_is : (a b : Bool) → same a b ≡ true → a ≡ b
unfolding same
same_is true b h = sym h
same_is false false h = refl
same_is false true h = h

right : ℕ → ℕ → ℕ → Bool
right s o k = same (has (mask_of s o) k) (adding s o k)

fitting : ℕ → ℕ → Bool
fitting s o = ltb (mask_of s o) 262144

all_right : all_below (λ s. all_below (λ o. all_below (right s o) right_count) 8) 8 ≡ true
unfolding all_below right mask_of to_first_object bits_of adding same has atom subject_of object_of
all_right = refl

all_fitting : all_below (λ s. all_below (fitting s) 8) 8 ≡ true
unfolding all_below fitting mask_of to_first_object bits_of has atom subject_of object_of
all_fitting = refl

module _ (s o : ℕ) (ls : s < 8) (lo : o < 8) where
  mask_is : (k : ℕ) → k < right_count → has (mask_of s o) k ≡ adding s o k
  unfolding right
  mask_is k l =
      same_is (has (mask_of s o) k) (adding s o k)
      (all_at (right s o) right_count k (all_at (λ o. all_below (right s o) right_count) 8 o (all_at (λ s. all_below (λ o. all_below (right s o) right_count) 8) 8 s all_right ls) lo) l)

  mask_fits : mask_of s o < 2 ^ right_count
  unfolding fitting
  mask_fits = ltb-true (mask_of s o) 262144 (all_at (fitting s) 8 o (all_at (λ s. all_below (fitting s) 8) 8 s all_fitting ls) lo)

module _ (p : Position) (ls : p.subjects < 8) (lo : p.objects < 8) where
  adds_mask : (k : ℕ) → k < right_count → has (bit_and p.rights (mask_of p.subjects p.objects)) k ≡ adds p k
  unfolding adds adding
  adds_mask k l =
      has_and p.rights (mask_of p.subjects p.objects) k
      ∙ ap (λ (x : Bool). has p.rights k && x) (mask_is p.subjects p.objects ls lo k l)

  pub set_made : {x y : ℕ} → x ≡ to_first_object (7 - p.subjects) → y ≡ to_first_object p.subjects
      → bit_and p.rights (x * p.objects + 512 * (y * (7 - p.objects))) ≡ additions p
  unfolding additions mask_of
  set_made {x} {y} e f =
      ap (λ (i : ℕ). bit_and p.rights (i * p.objects + 512 * (y * (7 - p.objects)))) e
      ∙ ap (λ (i : ℕ). bit_and p.rights (to_first_object (7 - p.subjects) * p.objects + 512 * (i * (7 - p.objects)))) f
      ∙ bits_is (bit_and p.rights (mask_of p.subjects p.objects)) right_count (adds p)
      (lt_of_le_of_lt (and_le_r p.rights (mask_of p.subjects p.objects)) (mask_fits p.subjects p.objects ls lo))
      adds_mask

module _ (p : Position) (k : ℕ) {moves : ℕ} (e : moves ≡ additions p) (l : k < right_count) where
  pub in_set : has moves k ≡ adds p k
  unfolding additions
  in_set = ap (λ (x : ℕ). has x k) e ∙ bits_has (adds p) right_count k l

  pub set_has : moves / 2 ^ k % 2 ≡ 1 → adds p k ≡ true
  set_has h = sym in_set ∙ has_is moves k h

  pub set_lacks : (moves / 2 ^ k % 2 ≡ 1 → ⊥) → adds p k ≡ false
  set_lacks h = sym in_set ∙ has_not moves k h

-- ---- those that reach b

-- the three appends to b, as code makes them
to_object : ℕ → ℕ → Bool
to_object b k = same (has (73 * 2 ^ (9 + b) % 4294967296) k) (appends_to b k)

all_to : all_below (λ b. all_below (to_object b) right_count) side_limit ≡ true
unfolding all_below to_object appends_to same has atom object_of
all_to = refl

to_fits : all_below (λ b. ltb (73 * 2 ^ (9 + b) % 4294967296) 262144) side_limit ≡ true
unfolding all_below
to_fits = refl

module _ (b moves : ℕ) (l : b < side_limit) where
  abbrev three : ℕ
  three = 73 * 2 ^ (9 + b) % 4294967296

  to_is : (k : ℕ) → k < right_count → has (73 * 2 ^ (9 + b) % 4294967296) k ≡ appends_to b k
  unfolding to_object
  to_is k m = same_is (has three k) (appends_to b k) (all_at (to_object b) right_count k (all_at (λ b. all_below (to_object b) right_count) side_limit b all_to l) m)

  both : (k : ℕ) → k < right_count → has (bit_and moves three) k ≡ (has moves k && appends_to b k)
  both k m = has_and moves three k ∙ ap (λ (x : Bool). has moves k && x) (to_is k m)

  none_both : reaches_in b moves ≡ false → bit_and moves three ≡ 0
  unfolding reaches_in
  none_both h = has_ext (bit_and moves three) 0 (λ k. by k (dec_lt k right_count) ∙ sym (has_zero k))
    where
      small : bit_and moves three < 2 ^ right_count
      small = lt_of_le_of_lt (and_le_r moves three) (ltb-true three 262144 (all_at (λ b. ltb (73 * 2 ^ (9 + b) % 4294967296) 262144) side_limit b to_fits l))

      by : (k : ℕ) → Dec (k < right_count) → has (bit_and moves three) k ≡ false
      by k (yes m) = both k m ∙ none_at (λ k. has moves k && appends_to b k) right_count k h m
      by k (no m) = has_above (bit_and moves three) right_count k small (omega arith)

  some_both : reaches_in b moves ≡ true → bit_and moves three ≡ 0 → ⊥
  unfolding reaches_in
  some_both h e = at (least_below (λ k. has moves k && appends_to b k) right_count) (least_some (λ k. has moves k && appends_to b k) right_count h)
    where
      at : (k : ℕ) → Least (λ k. has moves k && appends_to b k) right_count k → ⊥
      at k w = clash (both k w.below ∙ w.passes) (ap (λ (x : ℕ). has x k) e ∙ has_zero k)

  pub reaches_is : not (eqb (bit_and moves (73 * 2 ^ (9 + b) % 4294967296)) 0) ≡ reaches_in b moves
  reaches_is = by (decide (reaches_in b moves))
    where
      by : (reaches_in b moves ≡ true) ⊎ (reaches_in b moves ≡ false) → not (eqb (bit_and moves (73 * 2 ^ (9 + b) % 4294967296)) 0) ≡ reaches_in b moves
      by (inl h) = rw (h, ne_eqb (bit_and moves (73 * 2 ^ (9 + b) % 4294967296)) 0 (some_both h))
      by (inr h) = rw (h, eq-eqb (bit_and moves (73 * 2 ^ (9 + b) % 4294967296)) 0 (none_both h))
