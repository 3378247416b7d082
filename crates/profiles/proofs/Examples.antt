-- One text for each clause of the grammar, by computation.
use Prim.Native.Nat.{ℕ}
use Prim.Native.String.{String}
use mathlib.Core.Path.{◌≡◌, refl}
use mathlib.Core.Bool.{true, false}
use mathlib.Core.List.{List, [], ◌∷◌, ◌++◌}
use mathlib.Core.Option.{some}
use lib.ListN.{replicate}
use Rattle.fields.specs.Ascii.{ascii}
use Rattle.lists.specs.Lists.{every, joined, same_list, known_by}
use Rattle.profiles.specs.Profiles.{mode_r, mode_w, mode_ix, mode_Ux, newline, mode_text, modes_text, profile_word, profile_end, modes_start, modes_end}
use Rattle.profiles.specs.Profiles.{profile_line, entry_line, end_line, is_between, is_digit, is_letter, is_path_byte, path_good, modes_good, entry_good}
use Rattle.profiles.specs.Tokens.{starts, tokens_from, tokens}
use Rattle.profiles.specs.Reading.{line_text, line_good, path_byte_in, path_in, mode_among, all_modes, mode_in, modes_in, entry_in}
use Rattle.profiles.specs.Reading.{lines_to_try, line_among, line_in, lines_in, lines_text, behind_line, parsed, profiles_of, reading_of}
use Rattle.profiles.specs.Texts.{no_repeat, profiled_once, reads_well, text_good}

-- each with byte 10 behind it
abbrev lines : List String → List ℕ
lines [] = []
lines (l ∷ ls) = ascii l ++ (newline ∷ lines ls)

-- a profile whose path is a slash and n letters
abbrev profile_of : ℕ → List ℕ
profile_of n = ascii "profile /" ++ (replicate n 97 ++ lines (" {" ∷ "}" ∷ []))

pub record Examples : Type 0 where
  -- "any number of profiles": also none
  pub no_profile : reading_of [] ≡ some []
  -- "any number of lines `PATH MODES,`": also none
  pub no_entry : reading_of (lines ("profile /a {" ∷ "}" ∷ [])) ≡ some (record { path = ascii "/a"; entries = [] } ∷ [])
  -- "modes are letters .., run together, read left to right"; the profile names itself, and modes are repeated
  pub modes : reading_of (lines ("profile /a {" ∷ "/a rixrUxw," ∷ "}" ∷ []))
      ≡ some (record { path = ascii "/a"; entries = record { path = ascii "/a"; modes = mode_r ∷ mode_ix ∷ mode_r ∷ mode_Ux ∷ mode_w ∷ [] } ∷ [] } ∷ [])
  pub every_mode : text_good (lines ("profile /b {" ∷ "/a rwalmixpxPxuxUx," ∷ "}" ∷ [])) ≡ true
  pub two_profiles : text_good (lines ("profile /b {" ∷ "/a r," ∷ "/a w," ∷ "}" ∷ "profile /a {" ∷ "/Z.9/ Px," ∷ "}" ∷ [])) ≡ true
  -- "a path is `/` and 1 to 63 letters, digits, dots or slashes"
  pub slashes : text_good (lines ("profile // {" ∷ "/. l," ∷ "}" ∷ [])) ≡ true
  pub path_of_64 : text_good (profile_of 63) ≡ true
  pub path_of_65 : text_good (profile_of 64) ≡ false
  pub path_of_1 : text_good (profile_of 0) ≡ false
  pub no_slash : text_good (lines ("profile a/ {" ∷ "}" ∷ [])) ≡ false
  pub underscore : text_good (lines ("profile /a_ {" ∷ "}" ∷ [])) ≡ false
  -- "at least one"
  pub no_mode : text_good (lines ("profile /a {" ∷ "/b ," ∷ "}" ∷ [])) ≡ false
  pub lone_x : text_good (lines ("profile /a {" ∷ "/b rx," ∷ "}" ∷ [])) ≡ false
  pub lone_p : text_good (lines ("profile /a {" ∷ "/b p," ∷ "}" ∷ [])) ≡ false
  pub capital_i : text_good (lines ("profile /a {" ∷ "/b Ix," ∷ "}" ∷ [])) ≡ false
  pub no_comma : text_good (lines ("profile /a {" ∷ "/b r" ∷ "}" ∷ [])) ≡ false
  -- "with single spaces as shown"
  pub two_spaces : text_good (lines ("profile  /a {" ∷ "}" ∷ [])) ≡ false
  pub spaces_in_front : text_good (lines ("profile /a {" ∷ "  /b r," ∷ "}" ∷ [])) ≡ false
  pub space_behind : text_good (lines ("profile /a { " ∷ "}" ∷ [])) ≡ false
  pub tab : text_good (lines ("profile /a {" ∷ []) ++ (ascii "/b" ++ (9 ∷ lines ("r," ∷ "}" ∷ [])))) ≡ false
  -- "byte 10 after every line"
  pub blank_line : text_good (lines ("profile /a {" ∷ "}" ∷ "" ∷ [])) ≡ false
  pub last_line_open : text_good (lines ("profile /a {" ∷ []) ++ ascii "}") ≡ false
  pub byte_13 : text_good (ascii "profile /a {" ++ (13 ∷ newline ∷ lines ("}" ∷ []))) ≡ false
  -- each a first line, entries and "a line `}`"
  pub open_profile : text_good (lines ("profile /a {" ∷ "/b r," ∷ [])) ≡ false
  pub profile_inside : text_good (lines ("profile /a {" ∷ "profile /b {" ∷ "}" ∷ "}" ∷ [])) ≡ false
  pub entry_outside : text_good (lines ("/b r," ∷ [])) ≡ false
  pub two_ends : text_good (lines ("profile /a {" ∷ "}" ∷ "}" ∷ [])) ≡ false
  pub comment : text_good (lines ("# a" ∷ [])) ≡ false
  -- "profiles a path twice", not next to the first
  pub profiled_twice : text_good (lines ("profile /a {" ∷ "}" ∷ "profile /b {" ∷ "}" ∷ "profile /a {" ∷ "}" ∷ [])) ≡ false

pub examples : Examples
unfolding ascii mode_text modes_text profile_word profile_end modes_start modes_end profile_line entry_line end_line
    is_digit is_letter is_between is_path_byte path_good modes_good entry_good starts tokens_from tokens line_text line_good path_byte_in path_in
    mode_among all_modes mode_in modes_in entry_in lines_to_try line_among line_in lines_in lines_text behind_line parsed profiles_of reading_of known_by
    no_repeat profiled_once reads_well text_good every joined same_list
examples =
    record {
      no_profile = refl;
      no_entry = refl;
      modes = refl;
      every_mode = refl;
      two_profiles = refl;
      slashes = refl;
      path_of_64 = refl;
      path_of_65 = refl;
      path_of_1 = refl;
      no_slash = refl;
      underscore = refl;
      no_mode = refl;
      lone_x = refl;
      lone_p = refl;
      capital_i = refl;
      no_comma = refl;
      two_spaces = refl;
      spaces_in_front = refl;
      space_behind = refl;
      tab = refl;
      blank_line = refl;
      last_line_open = refl;
      byte_13 = refl;
      open_profile = refl;
      profile_inside = refl;
      entry_outside = refl;
      two_ends = refl;
      comment = refl;
      profiled_twice = refl;
    }
