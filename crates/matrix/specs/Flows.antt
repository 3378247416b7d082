-- A matrix of read and write rights, its granted flows and its composed flows (the paper, "Matrix").
-- A matrix is its read rows, its write rows and the number of its objects; row s is what subject s reads, or writes.
use Rattle.std.specs.Prelude.{ℕ, zero, suc, ◌^◌, ◌<◌, ◌≡◌, Bool, true, false, ◌&&◌, ◌||◌, List, [], ◌∷◌, eqb, ltb, leb, length}
use Rattle.rules.specs.Sets.{atom}
use Rattle.lists.specs.Lists.{every}
use Rattle.matrix.specs.Limits.{subject_limit, object_limit}

-- ---- which numbers are a matrix

-- no row has a bit beyond the objects
unfoldable pub rows_within : ℕ → List ℕ → Bool
rows_within objects rows = every (λ row. ltb row (2 ^ objects)) rows

-- a number from 1 to most
unfoldable pub count_good : ℕ → ℕ → Bool
count_good most n = leb 1 n && leb n most

-- a matrix: "row counts differ, counts, bit beyond the objects" is what it is refused for
unfoldable pub matrix_good : List ℕ → List ℕ → ℕ → Bool
matrix_good reads writes objects =
    eqb (length reads) (length writes)
    && (count_good subject_limit (length reads)
    && (count_good object_limit objects && (rows_within objects reads && rows_within objects writes)))

-- the three together: subject s may read object k where row s of the reads has bit k, and write it where row s of the writes has it
pub record Matrix : Type 0 where
  pub reads : List ℕ
  pub writes : List ℕ
  pub objects : ℕ

abbrev pub matrix_of : List ℕ → List ℕ → ℕ → Matrix
matrix_of reads writes objects = record { reads = reads; writes = writes; objects = objects }

-- no "malformed matrix" (change request No. 7)
unfoldable pub well_formed : Matrix → Bool
well_formed m = matrix_good m.reads m.writes m.objects

-- ---- flows between objects

-- "bit k for object k"
unfoldable pub has : ℕ → ℕ → Bool
has row k = eqb (atom row k) 1

-- "one subject reads a and writes b"
unfoldable pub subject_carries : List ℕ → List ℕ → ℕ → ℕ → Bool
subject_carries [] writes a b = false
subject_carries (r ∷ reads) [] a b = false
subject_carries (r ∷ reads) (w ∷ writes) a b = has r a && has w b || subject_carries reads writes a b

-- "A flow from a to b is granted if a = b or one subject reads a and writes b."
unfoldable pub granted : List ℕ → List ℕ → ℕ → ℕ → Bool
granted reads writes a b = eqb a b || subject_carries reads writes a b

-- the transitive closure of the relation f on the numbers below n: a path of one step, or one with a step more
pub data Path (f : ℕ → ℕ → Bool) (n : ℕ) : ℕ → ℕ → Type 0 where
  step : {a b : ℕ} → a < n → b < n → f a b ≡ true → Path f n a b
  onward : {a b c : ℕ} → Path f n a b → c < n → f b c ≡ true → Path f n a c

-- "Composed flows are the transitive closure."
abbrev pub Composed : List ℕ → List ℕ → ℕ → ℕ → ℕ → Type 0
Composed reads writes objects a b = Path (granted reads writes) objects a b

-- ---- the same as a test: Theorems, composed-path, says that it passes exactly where there is a path

-- a path of f from a to b with no number between them but those below k: one that avoids k - 1, or one to it and one from it
unfoldable pub within : (ℕ → ℕ → Bool) → ℕ → ℕ → ℕ → Bool
within f zero a b = f a b
within f (suc k) a b = within f k a b || (within f k a k && within f k k b)

unfoldable pub composed : List ℕ → List ℕ → ℕ → ℕ → ℕ → Bool
composed reads writes objects a b = within (granted reads writes) objects a b
