-- Each line of a text that names a path in one number, as the code that judges a text leaves them to the code that reads it
-- afterwards: where the path begins, how long it is, and the modes, of which a profile's first line has none.
use Rattle.std.specs.Prelude.{ℕ, ◌+◌, ◌-◌, ◌*◌, ◌/◌, ◌%◌, ◌≤◌, ◌≡◌, Bool, true, false, not, cond, Option, None, Some, List, [], ◌∷◌, ◌++◌, length, take, replicate}
use Rattle.profiles.specs.Reading.{Line, opens, enters, closes, line_text, lines_in}
use Rattle.profiles.specs.Texts.{text_limit, text_good}
use Rattle.profiles.specs.Notes.{length_limit}
use Rattle.profiles.specs.Scanning.{line_scan}
use Rattle.profiles.specs.declared.ScannedLine.{ScannedLine}
use Rattle.profiles.specs.declared.NamedPath.{NamedPath}
use Rattle.profiles.specs.declared.LineKind.{LineKind}
use Rattle.profiles.specs.declared.LineKind.TheVariants as K

unfoldable pub line_word : ScannedLine → ℕ
line_word s = s.path + text_limit * (s.length + length_limit * s.modes)

-- what a number tells
unfoldable pub named_path : ℕ → NamedPath
named_path w = record { start = w % text_limit; size = w / text_limit % length_limit; modes = w / (text_limit * length_limit) }

-- the numbers of lines, the first of which stands at a place
unfoldable pub line_words : ℕ → List Line → List ℕ
line_words at [] = []
line_words at (opens p ∷ ls) = line_word (line_scan at (opens p)) ∷ line_words (at + length (line_text (opens p))) ls
line_words at (enters e ∷ ls) = line_word (line_scan at (enters e)) ∷ line_words (at + length (line_text (enters e))) ls
line_words at (closes ∷ ls) = line_words (at + length (line_text closes)) ls

-- the numbers of the lines of a text
unfoldable pub text_words : List ℕ → List ℕ
text_words t = line_words 0 (lines_in t)

-- the least bytes of a profile's first line, `profile /a {` and byte 10, and of any line that names a path, `/a r,` and byte 10
abbrev pub profile_least : ℕ
profile_least = 13

abbrev pub entry_least : ℕ
entry_least = 6

-- numbers enough for every text
abbrev pub word_limit : ℕ
word_limit = text_limit / entry_least + 1

-- the bytes of a text for which few notes do: it has at most as many profiles
abbrev pub few_profiles : ℕ
few_profiles = 64

abbrev pub short_limit : ℕ
short_limit = few_profiles * profile_least

-- ---- what the functions give

-- a profile's first line stands outside of profiles, the others inside of one
unfoldable pub may_stand : LineKind → Bool → Bool
may_stand K.Profile inside = not inside
may_stand K.Entry inside = inside
may_stand K.End inside = inside

-- whether a text is good, and if so, how many of its lines name a path
pub record ScannedText : Type 0 where
  pub good : Bool
  pub count : ℕ

-- the same as the functions answer it: the count of a good text
abbrev pub scanned : Option ℕ → ScannedText
scanned None = record { good = false; count = 0 }
scanned (Some n) = record { good = true; count = n }

-- whether a text is good, as b says, and if so, the numbers of its lines in front of others
pub record Judged (t words : List ℕ) (b : Bool) (s : ScannedText) : Type 0 where
  pub right : s.good ≡ b
  pub room : s.good ≡ true → s.count ≤ length words
  pub listed : s.good ≡ true → take s.count words ≡ text_words t

-- the numbers of the lines of a good text, none of another
unfoldable pub good_words : List ℕ → List ℕ
good_words t = cond (text_good t) (text_words t) []

-- whether a text is good, and how many of its lines name a path
unfoldable pub scanned_of : List ℕ → ScannedText
scanned_of t = record { good = text_good t; count = length (good_words t) }

-- the numbers, and zeros behind them
unfoldable pub table_of : List ℕ → List ℕ
table_of t = good_words t ++ replicate (word_limit - length (good_words t)) 0
