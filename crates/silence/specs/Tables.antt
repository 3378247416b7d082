-- How silent is worked out: the table of the sources, of which row b is the tag of the objects with a composed flow into b.
use Rattle.std.specs.Prelude.{◌≡◌, ℕ, ◌≤◌, ◌<◌, List, length, slice_index}
use Rattle.matrix.specs.Limits.{object_limit}
use Rattle.silence.specs.Silent.{sources_of}

pub record SourceTable (reads writes : List ℕ) (n : ℕ) (rows : List ℕ) : Type 0 where
  pub even : length writes ≡ length reads
  pub few : n ≤ object_limit
  pub fit : n ≤ length rows
  pub sources : (b : ℕ) → b < n → slice_index rows b ≡ sources_of reads writes n b
