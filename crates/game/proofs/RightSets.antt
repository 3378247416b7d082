-- The rights of a matrix, gathered as one set, row by row.
use mathlib.Core.Path.{◌≡◌, refl, sym, ap, ◌∙◌}
use mathlib.Core.Bool.{Bool, true, false, cond, ◌&&◌, ◌||◌}
use mathlib.Core.List.{List}
use Prim.Native.Nat.{ℕ, ◌+◌, ◌*◌, ◌%◌, ◌^◌, ◌<◌, ◌≤◌}
use native.Mathlib.Decide.{dec_lt, ℕ_discrete}
use native.Mathlib.Nat.{lt_of_lt_of_le}
use native.Mathlib.Omega.{arith}
use lib.Bits.{bit_or, or_lt}
use lib.Dec.{eqb, ltb}
use lib.ListN.{length, get_or, get_or-eq_default}
use lib.Pow.{pow_mono}
use borrow.Author.Tests.{eq-eqb, ne_eqb, lt-ltb, le-ltb, ltb-true}
use Rattle.lists.specs.Counting.{all_below}
use Rattle.lists.proofs.Bools.{or_none}
use Rattle.lists.proofs.Below.{all_at}
use Rattle.lists.proofs.Every.{every_get_d}
use Rattle.rules.specs.Sets.{atom}
use Rattle.matrix.specs.Flows.{has, rows_within, matrix_good}
use Rattle.matrix.specs.Rows.{bit_at, bits_of}
use Rattle.matrix.proofs.RowBits.{has_or, has_zero, bits_is}
use Rattle.matrix.proofs.GoodLaws.{Good, good_parts}
use Rattle.game.specs.Limits.{side_limit, read_count, right_count}
use Rattle.game.specs.Positions.{subject_of, object_of}
use Rattle.game.specs.Outcomes.{right_in}
use Rattle.game.specs.Search.{Rows}
use Rattle.game.proofs.MoveSetLaws.{same, same_is}

-- ---- the rows of one subject, at their place: computed over all rows

-- as code makes it
abbrev placed_row : ℕ → ℕ → ℕ → ℕ
placed_row s r w = (r + 512 * w) * 2 ^ (3 * s) % 4294967296

unfoldable in_row : ℕ → ℕ → ℕ → ℕ → Bool
in_row s r w k = eqb (subject_of k) s && cond (ltb k read_count) (has r (object_of k)) (has w (object_of k))

row_right : ℕ → ℕ → ℕ → ℕ → Bool
row_right s r w k = same (has (placed_row s r w) k) (in_row s r w k)

row_fits : ℕ → ℕ → ℕ → Bool
row_fits s r w = ltb (placed_row s r w) 262144

all_rows : all_below (λ s. all_below (λ r. all_below (λ w. all_below (row_right s r w) right_count) 8) 8) side_limit ≡ true
unfolding all_below row_right in_row same has atom subject_of object_of
all_rows = refl

all_fits : all_below (λ s. all_below (λ r. all_below (row_fits s r) 8) 8) side_limit ≡ true
unfolding all_below row_fits
all_fits = refl

module _ (s r w : ℕ) (ls : s < side_limit) (lr : r < 8) (lw : w < 8) where
  row_is : (k : ℕ) → k < right_count → has (placed_row s r w) k ≡ in_row s r w k
  unfolding row_right
  row_is k l =
      same_is (has (placed_row s r w) k) (in_row s r w k)
      (all_at (row_right s r w) right_count k
      (all_at (λ w. all_below (row_right s r w) right_count) 8 w
      (all_at (λ r. all_below (λ w. all_below (row_right s r w) right_count) 8) 8 r
      (all_at (λ s. all_below (λ r. all_below (λ w. all_below (row_right s r w) right_count) 8) 8) side_limit s all_rows ls) lr) lw) l)

  row_fits_lem : placed_row s r w < 2 ^ right_count
  unfolding row_fits
  row_fits_lem =
      ltb-true (placed_row s r w) 262144
      (all_at (row_fits s r) 8 w (all_at (λ r. all_below (row_fits s r) 8) 8 r (all_at (λ s. all_below (λ r. all_below (row_fits s r) 8) 8) side_limit s all_fits ls) lr) lw)

-- ---- the loop over the subjects

behind : (rows : List ℕ) (i : ℕ) → length rows ≤ i → get_or rows i 0 ≡ 0
behind rows i h = get_or-eq_default rows 0 h

-- the right of a subject that has no row
right_none : (reads writes : List ℕ) (k : ℕ) → length reads ≤ subject_of k → length writes ≤ subject_of k → right_in reads writes k ≡ false
unfolding right_in bit_at
right_none reads writes k l m = rw (behind reads (subject_of k) l, behind writes (subject_of k) m, has_zero (object_of k)) (by (ltb k read_count))
  where
    by : (x : Bool) → cond x false false ≡ false
    by true = refl
    by false = refl

-- the right of subject s, by its rows
right_row : (reads writes : List ℕ) (k s : ℕ) → subject_of k ≡ s → in_row s (get_or reads s 0) (get_or writes s 0) k ≡ right_in reads writes k
unfolding in_row right_in bit_at
right_row reads writes k s e = rw (eq-eqb (subject_of k) s e, e)

other_row : (s r w k : ℕ) → (subject_of k ≡ s → ⊥) → in_row s r w k ≡ false
unfolding in_row
other_row s r w k n = rw (ne_eqb (subject_of k) s n)

-- the rights of the subjects before s
pub record Gathering (reads writes : List ℕ) (rights s : ℕ) : Type 0 where
  pub place : s ≤ length reads
  pub done : (k : ℕ) → k < right_count → has rights k ≡ (ltb (subject_of k) s && right_in reads writes k)
  pub small : rights < 2 ^ right_count

pub gathering_start : (reads writes : List ℕ) → Gathering reads writes 0 0
gathering_start reads writes = record { place = omega arith; done = λ k l. has_zero k ∙ sym (none k); small = omega arith }
  where
    none : (k : ℕ) → (ltb (subject_of k) 0 && right_in reads writes k) ≡ false
    none k = rw (le-ltb (subject_of k) 0 (omega arith))

module _ (reads writes : List ℕ) (z : Rows reads writes) where
  pub gathering_next : (rights s : ℕ) → Gathering reads writes rights s → s < length reads
      → Gathering reads writes (bit_or rights ((get_or reads s 0 + 512 * get_or writes s 0) * 2 ^ (3 * s) % 4294967296)) (s + 1)
  gathering_next rights s g l =
      let fits = row_fits_lem s (get_or reads s 0) (get_or writes s 0) ls (z.small_reads s) (z.small_writes s) in
      record { place = omega arith; done = done; small = or_lt right_count rights (placed_row s (get_or reads s 0) (get_or writes s 0)) g.small fits }
    where
      ls : s < side_limit
      ls = omega (arith, z.few)

      done : (k : ℕ) → k < right_count → has (bit_or rights (placed_row s (get_or reads s 0) (get_or writes s 0))) k ≡ (ltb (subject_of k) (s + 1) && right_in reads writes k)
      done k m =
          has_or rights (placed_row s (get_or reads s 0) (get_or writes s 0)) k
          ∙ ap (λ (x : Bool). has rights k || x) (row_is s (get_or reads s 0) (get_or writes s 0) ls (z.small_reads s) (z.small_writes s) k m)
          ∙ ap (λ (x : Bool). x || in_row s (get_or reads s 0) (get_or writes s 0) k) (g.done k m)
          ∙ by (ℕ_discrete (subject_of k) s) (dec_lt (subject_of k) s)
        where
          by : Dec (subject_of k ≡ s) → Dec (subject_of k < s)
              → ((ltb (subject_of k) s && right_in reads writes k) || in_row s (get_or reads s 0) (get_or writes s 0) k)
              ≡ (ltb (subject_of k) (s + 1) && right_in reads writes k)
          by (yes e) d = rw (le-ltb (subject_of k) s (omega arith), lt-ltb (subject_of k) (s + 1) (omega arith)) (right_row reads writes k s e)
          by (no n) (yes i) =
              rw (lt-ltb (subject_of k) s i, lt-ltb (subject_of k) (s + 1) (omega arith), other_row s (get_or reads s 0) (get_or writes s 0) k n) (or_none (right_in reads writes k))
          by (no n) (no i) = rw (le-ltb (subject_of k) s (omega arith), le-ltb (subject_of k) (s + 1) (omega arith), other_row s (get_or reads s 0) (get_or writes s 0) k n)

  pub gathering_end : (rights s : ℕ) → Gathering reads writes rights s → length reads ≤ s → rights ≡ bits_of (right_in reads writes) right_count
  gathering_end rights s g l = bits_is rights right_count (right_in reads writes) g.small (λ k m. g.done k m ∙ by k (dec_lt (subject_of k) s))
    where
      by : (k : ℕ) → Dec (subject_of k < s) → (ltb (subject_of k) s && right_in reads writes k) ≡ right_in reads writes k
      by k (yes i) = rw (lt-ltb (subject_of k) s i)
      by k (no i) = rw (le-ltb (subject_of k) s (omega arith)) (sym (right_none reads writes k (omega arith) (omega (arith, z.even))))

-- ---- the rows of a matrix that is not refused

rows_small : (n : ℕ) (rows : List ℕ) → n ≤ side_limit → rows_within n rows ≡ true → (s : ℕ) → get_or rows s 0 < 2 ^ side_limit
unfolding rows_within
rows_small n rows l h s = by (dec_lt s (length rows))
  where
    by : Dec (s < length rows) → get_or rows s 0 < 2 ^ side_limit
    by (yes m) = lt_of_lt_of_le (ltb-true (get_or rows s 0) (2 ^ n) (every_get_d (λ row. ltb row (2 ^ n)) rows s 0 m h)) (pow_mono l)
    by (no m) = rw (behind rows s (omega arith)) (omega arith)

pub good_rows : (reads writes : List ℕ) (objects : ℕ) → matrix_good reads writes objects ≡ true → length reads ≤ side_limit → objects ≤ side_limit → Rows reads writes
good_rows reads writes objects h l m =
    let g : Good reads writes objects = good_parts reads writes objects h in
    record {
      even = g.even;
      few = l;
      small_reads = rows_small objects reads m g.reads_good;
      small_writes = rows_small objects writes m g.writes_good;
    }
