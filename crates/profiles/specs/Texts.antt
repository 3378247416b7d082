-- The test of a text (change request No. 1): "16 when the text is too long, breaks the grammar or profiles a path twice".
use Rattle.std.specs.Prelude.{ℕ, ◌<◌, ◌≢◌, Bool, true, false, not, ◌&&◌, List, [], ◌∷◌, map, leb, length, get_or}
use Rattle.std.proofs.Math.Option.{Option, none, some}
use Rattle.lists.specs.Lists.{known}
use Rattle.profiles.specs.Profiles.{Profile}
use Rattle.profiles.specs.Reading.{reading_of}

-- "profile text of up to 16,384 bytes"
abbrev pub text_limit : ℕ
text_limit = 16384

-- no path stands in the list twice
unfoldable pub no_repeat : List (List ℕ) → Bool
no_repeat [] = true
no_repeat (p ∷ ps) = not (known p ps) && no_repeat ps

-- the same, place by place: the paths at any two places differ
abbrev pub Differ : List (List ℕ) → Type 0
Differ ps = (i j : ℕ) → i < j → j < length ps → get_or ps i [] ≢ get_or ps j []

-- no path is profiled twice
unfoldable pub profiled_once : List Profile → Bool
profiled_once ps = no_repeat (map (λ p. p.path) ps)

-- there is a reading, and no path is profiled twice
unfoldable pub reads_well : Option (List Profile) → Bool
reads_well none = false
reads_well (some ps) = profiled_once ps

-- 16 is refused where this fails
unfoldable pub text_good : List ℕ → Bool
text_good t = leb (length t) text_limit && reads_well (reading_of t)
