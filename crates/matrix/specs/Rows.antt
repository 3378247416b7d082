-- How the verdict is worked out: the table of rows that spells a relation (`fill_granted`), and the contracts of private functions.
-- A relation on the first n objects is kept as n rows, bit b of row a telling of a and b.
use Rattle.std.specs.Prelude.{ℕ, zero, suc, ◌+◌, ◌*◌, ◌≤◌, ◌<◌, ◌≡◌, Bool, true, false, cond, ◌||◌, List, [], ◌∷◌, ◌++◌, eqb, length, get_or, drop}
use Rattle.std.specs.Int.Bits.{bit_and, bit_or}
use Rattle.lists.specs.Counting.{all_below}
use Rattle.rules.specs.Sets.{holds}
use Rattle.matrix.specs.Limits.{object_limit}
use Rattle.matrix.specs.Flows.{has, granted, Composed, composed, rows_within, matrix_good}

-- bit b of row a
unfoldable pub bit_at : List ℕ → ℕ → ℕ → Bool
bit_at rows a b = has (get_or rows a 0) b

-- the number whose bit k is f k, for each k below w
unfoldable pub bits_of : (ℕ → Bool) → ℕ → ℕ
bits_of f zero = 0
bits_of f (suc w) = cond (f 0) 1 0 + 2 * bits_of (λ k. f (suc k)) w

-- the rows of the relation f on the first n objects
unfoldable pub rows_of : (ℕ → ℕ → Bool) → ℕ → List ℕ
rows_of f zero = []
rows_of f (suc n) = bits_of (f 0) object_limit ∷ rows_of (λ a. f (suc a)) n

-- the table with these in its first n rows; those behind stay as they were
unfoldable pub spelling : (ℕ → ℕ → Bool) → ℕ → List ℕ → List ℕ
spelling f n rows = rows_of f n ++ drop n rows

-- ---- rows that lead no further

-- subject t reads no object of the row, or writes nothing beyond the row
unfoldable pub stays_in : List ℕ → List ℕ → ℕ → ℕ → Bool
stays_in reads writes row t = eqb (bit_and row (get_or reads t 0)) 0 || holds row (get_or writes t 0)

-- each subject is so
unfoldable pub row_closed : List ℕ → List ℕ → ℕ → Bool
row_closed reads writes row = all_below (stays_in reads writes row) (length reads)

-- subject s reads nothing, or each subject is so with what it writes
unfoldable pub subject_closed : List ℕ → List ℕ → ℕ → Bool
subject_closed reads writes s = eqb (get_or reads s 0) 0 || row_closed reads writes (get_or writes s 0)

-- so it is for every subject
unfoldable pub rows_closed : List ℕ → List ℕ → Bool
rows_closed reads writes = all_below (subject_closed reads writes) (length reads)

-- ---- what the subjects reach

-- the row, with the other one added if it has an object that is read
unfoldable pub joined_through : ℕ → ℕ → ℕ → ℕ
joined_through read other row = cond (eqb (bit_and row read) 0) row (bit_or row other)

-- each of the first m rows is changed so, by what row k was
pub record Passed (read k m : ℕ) (before after : List ℕ) : Type 0 where
  pub each : (s : ℕ) → s < m → get_or after s 0 ≡ joined_through read (get_or before k 0) (get_or before s 0)

-- row s is what subject s reaches by way of the first k subjects: all that it writes, and row t where it has an object that t, one of them,
-- reads; but nothing that no path leads to
pub record Reaching (reads writes reach : List ℕ) (k : ℕ) : Type 0 where
  pub holds : (s b : ℕ) → s < length reads → has (get_or writes s 0) b ≡ true → has (get_or reach s 0) b ≡ true
  pub through : (s t c b : ℕ) → s < length reads → t < k → has (get_or reach s 0) c ≡ true → has (get_or reads t 0) c ≡ true → has (get_or reach t 0) b ≡ true
      → has (get_or reach s 0) b ≡ true
  pub paths : (n s a b : ℕ) → matrix_good reads writes n ≡ true → s < length reads → has (get_or reads s 0) a ≡ true → has (get_or reach s 0) b ≡ true
      → Composed reads writes n a b

-- the subjects whose row is not what they write read no other objects than these
pub record Grown (reads writes reach : List ℕ) (grown : ℕ) : Type 0 where
  pub same : (s a : ℕ) → s < length reads → has (get_or reads s 0) a ≡ true → has grown a ≡ false → get_or reach s 0 ≡ get_or writes s 0

-- what the functions that judge are given: at most 32 objects, rows for the same subjects, no bit beyond the objects, and the rows that subjects
-- reach, with which the granted flows are the composed ones
pub record Closed (reads writes : List ℕ) (n : ℕ) (reach : List ℕ) : Type 0 where
  pub even : length writes ≡ length reads
  pub long : length reach ≡ length reads
  pub few : n ≤ object_limit
  pub good : rows_within n writes ≡ true
  pub flows : (a b : ℕ) → a < n → granted reads reach a b ≡ composed reads writes n a b
