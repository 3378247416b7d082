-- How the code remembers the paths that are profiled: a number for each, from its place in the text and a hash. The hash only
-- saves comparisons: no answer depends on it.
use Rattle.std.specs.Prelude.{ℕ, ◌+◌, ◌*◌, ◌/◌, ◌%◌, ◌^◌, ◌≤◌, ◌<◌, ◌≡◌, Bool, true, cond, ◌&&◌, List, [], ◌∷◌, map, eqb, ltb, length, take, drop, set}
use Rattle.lists.specs.Lists.{every, position}
use Rattle.profiles.specs.Profiles.{path_good}
use Rattle.profiles.specs.Reading.{path_in}
use Rattle.profiles.specs.Texts.{text_limit}

-- above the length of every path
abbrev pub length_limit : ℕ
length_limit = 128

-- the factor of the sum of a hash, and its limit
abbrev pub hash_factor : ℕ
hash_factor = 1000003

abbrev pub hash_limit : ℕ
hash_limit = 2 ^ 42

-- the sum of the bytes, each times a power of the factor, behind bytes with the sum k
unfoldable pub hash_from : ℕ → List ℕ → ℕ
hash_from k [] = k
hash_from k (b ∷ p) = hash_from ((k * hash_factor + b) % hash_limit) p

-- the length and the sum of the bytes
unfoldable pub path_hash : List ℕ → ℕ
path_hash p = length p + length_limit * hash_from 0 p

-- the note of a path at a place
unfoldable pub note_of : ℕ → List ℕ → ℕ
note_of at p = path_hash p * text_limit + at

-- the path of a note
unfoldable pub noted_path : List ℕ → ℕ → List ℕ
noted_path t n = path_in (drop (n % text_limit) t)

-- the note is that of its path
unfoldable pub note_good : List ℕ → ℕ → Bool
note_good t n = path_good (noted_path t n) && eqb (n / text_limit) (path_hash (noted_path t n))

-- ---- what the functions take and give

-- at the place there is a path of this length and hash
pub record PathAt (t : List ℕ) (at n hash : ℕ) : Type 0 where
  pub good : path_good (take n (drop at t)) ≡ true
  pub fits : at + n ≤ length t
  pub hashed : hash ≡ path_hash (take n (drop at t))

-- the first `count` notes are good, there is room for one more, and the path at the place can be noted
pub record ToNote (t notes : List ℕ) (count at n : ℕ) : Type 0 where
  pub noted : every (note_good t) (take count notes) ≡ true
  pub room : count < length notes
  pub good : path_good (take n (drop at t)) ≡ true
  pub fits : at + n ≤ length t
  pub place : at < text_limit

-- the paths of the first `count` notes
unfoldable pub noted_paths : List ℕ → List ℕ → ℕ → List (List ℕ)
noted_paths t notes count = map (noted_path t) (take count notes)

-- the place among them of the path at a place of the text
unfoldable pub noted_place : List ℕ → List ℕ → ℕ → ℕ → ℕ → ℕ
noted_place t notes count at n = position (take n (drop at t)) (noted_paths t notes count)

-- the notes with one of it behind them, unless there is one
unfoldable pub with_note : List ℕ → List ℕ → ℕ → ℕ → ℕ → List ℕ
with_note t notes count at n = cond (ltb (noted_place t notes count at n) count) notes (set notes count (note_of at (take n (drop at t))))
