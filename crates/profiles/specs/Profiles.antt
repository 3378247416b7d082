-- Profiles, and the text that they are (change request No. 1): "A text is any number of profiles, each a line
-- `profile PATH {`, any number of lines `PATH MODES,` and a line `}`, with single spaces as shown and byte 10 after every line".
use Rattle.std.specs.Prelude.{ℕ, Bool, true, false, ◌&&◌, ◌||◌, List, [], ◌∷◌, ◌++◌, map, eqb, leb, length}
use Rattle.fields.specs.Ascii.{ascii}
use Rattle.lists.specs.Lists.{every, joined}

-- ---- profiles

-- "modes are letters of source document 001's figure (r w a l m ix px Px ux Ux)"
pub data Mode : Type 0 where
  mode_r mode_w mode_a mode_l mode_m mode_ix mode_px mode_Px mode_ux mode_Ux : Mode

-- a line `PATH MODES,`
pub record PathEntry : Type 0 where
  pub path : List ℕ
  pub modes : List Mode

pub record Profile : Type 0 where
  pub path : List ℕ
  pub entries : List PathEntry

-- ---- their text

-- "byte 10 after every line"
abbrev pub newline : ℕ
newline = 10

unfoldable pub mode_text : Mode → List ℕ
mode_text mode_r = ascii "r"
mode_text mode_w = ascii "w"
mode_text mode_a = ascii "a"
mode_text mode_l = ascii "l"
mode_text mode_m = ascii "m"
mode_text mode_ix = ascii "ix"
mode_text mode_px = ascii "px"
mode_text mode_Px = ascii "Px"
mode_text mode_ux = ascii "ux"
mode_text mode_Ux = ascii "Ux"

-- "run together, read left to right"
unfoldable pub modes_text : List Mode → List ℕ
modes_text ms = joined (map mode_text ms)

-- what stands around the path and the modes of a line
unfoldable pub profile_word : List ℕ
profile_word = ascii "profile "

unfoldable pub profile_end : List ℕ
profile_end = ascii " {" ++ (newline ∷ [])

unfoldable pub modes_start : List ℕ
modes_start = ascii " "

unfoldable pub modes_end : List ℕ
modes_end = ascii "," ++ (newline ∷ [])

-- "a line `profile PATH {`"
unfoldable pub profile_line : List ℕ → List ℕ
profile_line path = profile_word ++ (path ++ profile_end)

-- a line "`PATH MODES,`"
unfoldable pub entry_line : PathEntry → List ℕ
entry_line e = e.path ++ (modes_start ++ (modes_text e.modes ++ modes_end))

-- "a line `}`"
unfoldable pub end_line : List ℕ
end_line = ascii "}" ++ (newline ∷ [])

unfoldable pub entries_text : List PathEntry → List ℕ
entries_text es = joined (map entry_line es)

-- one profile
unfoldable pub text_of_one : Profile → List ℕ
text_of_one p = profile_line p.path ++ (entries_text p.entries ++ end_line)

-- "any number of profiles"
unfoldable pub text_of : List Profile → List ℕ
text_of ps = joined (map text_of_one ps)

-- ---- which paths and modes there are

abbrev pub slash : ℕ
slash = 47

abbrev pub dot : ℕ
dot = 46

abbrev pub first_digit : ℕ
first_digit = 48

abbrev pub last_digit : ℕ
last_digit = 57

abbrev pub first_capital : ℕ
first_capital = 65

abbrev pub last_capital : ℕ
last_capital = 90

abbrev pub first_small : ℕ
first_small = 97

abbrev pub last_small : ℕ
last_small = 122

unfoldable pub is_between : ℕ → ℕ → ℕ → Bool
is_between low high b = leb low b && leb b high

-- of ASCII
unfoldable pub is_digit : ℕ → Bool
is_digit b = is_between first_digit last_digit b

unfoldable pub is_letter : ℕ → Bool
is_letter b = is_between first_small last_small b || is_between first_capital last_capital b

-- "letters, digits, dots or slashes"
unfoldable pub is_path_byte : ℕ → Bool
is_path_byte b = is_letter b || (is_digit b || (eqb b dot || eqb b slash))

-- "a path is `/` and 1 to 63 letters, digits, dots or slashes"
unfoldable pub path_good : List ℕ → Bool
path_good [] = false
path_good (b ∷ p) = eqb b slash && ((leb 1 (length p) && leb (length p) 63) && every is_path_byte p)

-- "at least one"
unfoldable pub modes_good : List Mode → Bool
modes_good [] = false
modes_good (m ∷ ms) = true

unfoldable pub entry_good : PathEntry → Bool
entry_good e = path_good e.path && modes_good e.modes

unfoldable pub profile_good : Profile → Bool
profile_good p = path_good p.path && every entry_good p.entries
