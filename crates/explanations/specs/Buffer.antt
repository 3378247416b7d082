-- A line whose last fields are the steps of a chain is written in parts: what stands before them, then so many steps at a time.
use Rattle.std.specs.Prelude.{ℕ, List, [], ◌∷◌, ◌++◌}
use Rattle.listing.specs.Lines.{newline, leading}
use Rattle.explanations.specs.Lines.{step_fields}

-- the part of a line from its first field on that more fields follow
unfoldable pub opened : List ℕ → List (List ℕ) → List ℕ
opened f fs = f ++ leading fs

-- the line that begins so, and ends with the steps of these records
unfoldable pub ended : List ℕ → List ℕ → List ℕ
ended front ns = front ++ (leading (step_fields ns) ++ (newline ∷ []))

-- the most steps of a part
abbrev pub part_limit : ℕ
part_limit = 2048
