-- What the pass over a good text gives (change request No. 1): its paths by their places, in order of first appearance, and its
-- programs with their modes on each path.
use Rattle.std.specs.Prelude.{ℕ, zero, suc, ◌+◌, ◌-◌, ◌*◌, ◌≤◌, ◌<◌, Bool, true, List, [], ◌∷◌, ◌≡◌, ◌⊎◌, length, get_or, set}
use Rattle.std.specs.Int.Bits.{bit_or}
use Rattle.lists.specs.Lists.{position}
use Rattle.rules.specs.Answers.{data_width}
use Rattle.confinement.specs.Confinement.{with_path, paths_of}
use Rattle.confinement.specs.Images.{profiles_in}
use Rattle.confinement.specs.Tables.{path_at, cell_count, PathTable, ProgramTable}

-- n paths of a table, from the j-th place on
unfoldable pub paths_from : List ℕ → List ℕ → List ℕ → ℕ → ℕ → List (List ℕ)
paths_from t starts sizes j zero = []
paths_from t starts sizes j (suc n) = path_at t (get_or starts j 0) (get_or sizes j 0) ∷ paths_from t starts sizes (suc j) n

-- the first n
abbrev pub table_paths : List ℕ → List ℕ → List ℕ → ℕ → List (List ℕ)
table_paths t starts sizes n = paths_from t starts sizes 0 n

-- the first n places are of paths in the text, none of which stands twice
pub record PathSpans (t starts sizes : List ℕ) (n : ℕ) : Type 0 where
  pub few : n ≤ data_width
  pub starts_long : length starts ≡ data_width
  pub sizes_long : length sizes ≡ data_width
  pub within : (k : ℕ) → k < n → get_or starts k 0 + get_or sizes k 0 ≤ length t
  pub once : (k : ℕ) → k < n → position (path_at t (get_or starts k 0) (get_or sizes k 0)) (table_paths t starts sizes n) ≡ k

-- how many hints there are. A hint is a number to compare with first: no answer depends on it.
abbrev pub hint_count : ℕ
hint_count = 256

-- a hint is a path's number in the table
pub record Hinted (t starts sizes : List ℕ) (n hint : ℕ) (q : List ℕ) (r : Bool) : Type 0 where
  pub right : r ≡ true → hint ≡ position q (table_paths t starts sizes n)

-- a path's number in a table of n paths, and how many these are with it: the next number if it is new, 32 if there is no room
pub record Placed (t starts₀ sizes₀ : List ℕ) (n : ℕ) (q starts sizes hints : List ℕ) (number count : ℕ) : Type 0 where
  pub full : data_width ≤ number → data_width < length (with_path (table_paths t starts₀ sizes₀ n) q)
  pub spans : number < data_width → PathSpans t starts sizes count
  pub paths : number < data_width → table_paths t starts sizes count ≡ with_path (table_paths t starts₀ sizes₀ n) q
  pub found : number < data_width → number ≡ position q (with_path (table_paths t starts₀ sizes₀ n) q)
  pub starts_long : length starts ≡ data_width
  pub sizes_long : length sizes ≡ data_width
  pub hints_long : length hints ≡ hint_count

-- a line without modes adds a program, and one with modes adds these to the last of m programs, at the path's number; a count of 33 says that
-- the number is over 31, or that there are 32 programs already, and then nothing is added
pub record LineAdded (own₀ modes₀ : List ℕ) (m number bits : ℕ) (own modes : List ℕ) (count : ℕ) : Type 0 where
  pub full : data_width < count → (data_width ≤ number) ⊎ ((number < data_width) × (bits ≡ 0) × (m ≡ data_width))
  pub untouched : data_width < count → (count ≡ data_width + 1) × (own ≡ own₀) × (modes ≡ modes₀)
  pub fits : count ≤ data_width → number < data_width
  pub opened : count ≤ data_width → bits ≡ 0 → (m < data_width) × (count ≡ m + 1) × (own ≡ set own₀ m number) × (modes ≡ modes₀)
  pub entered : count ≤ data_width → (bits ≡ 0 → ⊥) → (count ≡ m) × (own ≡ own₀)
      × (modes ≡ set modes₀ ((m - 1) * data_width + number) (bit_or (get_or modes₀ ((m - 1) * data_width + number) 0) bits))
  pub own_long : length own ≡ data_width
  pub modes_long : length modes ≡ cell_count

-- the tables of a text's n paths and m programs; a count over 32 says that there are more than 32 paths
pub record Scanned (t starts sizes own modes : List ℕ) (n m : ℕ) : Type 0 where
  pub paths : n ≤ data_width → PathTable t (paths_of (profiles_in t)) starts sizes n
  pub programs : n ≤ data_width → ProgramTable (paths_of (profiles_in t)) (profiles_in t) own modes m
  pub many : data_width < n → data_width < length (paths_of (profiles_in t))
