-- The reader (change request No. 1): "A text has a reading exactly when it is of this grammar, and only one". It reads the
-- lines in front of the text, one after the other, and puts the lines together into profiles.
use Rattle.std.specs.Prelude.{ℕ, ◌+◌, Bool, true, cond, ◌&&◌, List, [], ◌∷◌, map, eqb, length, drop}
use Rattle.std.proofs.Math.Option.{Option, none, some}
use Rattle.lists.specs.Lists.{joined}
use Rattle.profiles.specs.Profiles.{Mode, mode_r, mode_w, mode_a, mode_l, mode_m, mode_ix, mode_px, mode_Px, mode_ux, mode_Ux, PathEntry}
use Rattle.profiles.specs.Profiles.{Profile, mode_text, profile_word, profile_line, entry_line, end_line, is_path_byte, path_good, entry_good}
use Rattle.profiles.specs.Tokens.{starts, tokens}

-- ---- lines

pub data Line : Type 0 where
  opens : (path : List ℕ) → Line
  enters : (e : PathEntry) → Line
  closes : Line

unfoldable pub line_text : Line → List ℕ
line_text (opens p) = profile_line p
line_text (enters e) = entry_line e
line_text closes = end_line

unfoldable pub line_good : Line → Bool
line_good (opens p) = path_good p
line_good (enters e) = entry_good e
line_good closes = true

-- the lines of entries, and those behind them
unfoldable pub entry_lines : List PathEntry → List Line → List Line
entry_lines [] ls = ls
entry_lines (e ∷ es) ls = enters e ∷ entry_lines es ls

-- the lines of the profiles' text
unfoldable pub lines_of : List Profile → List Line
lines_of [] = []
lines_of (p ∷ ps) = opens p.path ∷ entry_lines p.entries (closes ∷ lines_of ps)

-- ---- a line is read

unfoldable pub path_byte_in : List ℕ → Option ℕ
path_byte_in [] = none
path_byte_in (b ∷ t) = cond (is_path_byte b) (some b) none

abbrev pub byte_text : ℕ → List ℕ
byte_text b = b ∷ []

-- the bytes of a path in front
unfoldable pub path_in : List ℕ → List ℕ
path_in t = tokens path_byte_in byte_text t

-- the first of the modes that the text begins with
unfoldable pub mode_among : List Mode → List ℕ → Option Mode
mode_among [] t = none
mode_among (m ∷ ms) t = cond (starts (mode_text m) t) (some m) (mode_among ms t)

unfoldable pub all_modes : List Mode
all_modes = mode_r ∷ mode_w ∷ mode_a ∷ mode_l ∷ mode_m ∷ mode_ix ∷ mode_px ∷ mode_Px ∷ mode_ux ∷ mode_Ux ∷ []

unfoldable pub mode_in : List ℕ → Option Mode
mode_in t = mode_among all_modes t

-- the modes in front
unfoldable pub modes_in : List ℕ → List Mode
modes_in t = tokens mode_in mode_text t

-- what the line in front is, if it is one of each sort
unfoldable pub entry_in : List ℕ → PathEntry
entry_in t = record { path = path_in t; modes = modes_in (drop (length (path_in t) + 1) t) }

unfoldable pub lines_to_try : List ℕ → List Line
lines_to_try t = opens (path_in (drop (length profile_word) t)) ∷ enters (entry_in t) ∷ closes ∷ []

-- the first of the lines that is good and that the text begins with
unfoldable pub line_among : List Line → List ℕ → Option Line
line_among [] t = none
line_among (l ∷ ls) t = cond (line_good l && starts (line_text l) t) (some l) (line_among ls t)

-- the line in front
unfoldable pub line_in : List ℕ → Option Line
line_in t = line_among (lines_to_try t) t

-- the lines in front
unfoldable pub lines_in : List ℕ → List Line
lines_in t = tokens line_in line_text t

unfoldable pub lines_text : List Line → List ℕ
lines_text ls = joined (map line_text ls)

-- ---- the lines are put together

-- what lines are: profiles; entries, the end of their profile and profiles; or neither
pub data Parsed : Type 0 where
  outside : (ps : List Profile) → Parsed
  inside : (es : List PathEntry) (ps : List Profile) → Parsed
  broken : Parsed

-- with one more line in front
unfoldable pub behind_line : Line → Parsed → Parsed
behind_line (opens p) (outside ps) = broken
behind_line (opens p) (inside es ps) = outside (record { path = p; entries = es } ∷ ps)
behind_line (opens p) broken = broken
behind_line (enters e) (outside ps) = broken
behind_line (enters e) (inside es ps) = inside (e ∷ es) ps
behind_line (enters e) broken = broken
behind_line closes (outside ps) = inside [] ps
behind_line closes (inside es ps) = broken
behind_line closes broken = broken

unfoldable pub parsed : List Line → Parsed
parsed [] = outside []
parsed (l ∷ ls) = behind_line l (parsed ls)

unfoldable pub profiles_of : Parsed → Option (List Profile)
profiles_of (outside ps) = some ps
profiles_of (inside es ps) = none
profiles_of broken = none

-- the profiles that the text is, if its lines leave no byte
unfoldable pub reading_of : List ℕ → Option (List Profile)
reading_of t = cond (eqb (length (lines_text (lines_in t))) (length t)) (profiles_of (parsed (lines_in t))) none
