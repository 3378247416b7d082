-- Lines of a text in numbers, as the code that walks a text hands them on: what sort of line stands at a place, where its
-- path is, its modes as a set, and where the next line begins. A text that has a reading is, line by line, the lines of it.
use Rattle.std.specs.Prelude.{ℕ, ◌+◌, ◌^◌, cond, List, [], ◌∷◌, eqb, length, drop}
use Rattle.std.proofs.Math.Option.{Option, none, some}
use Rattle.std.specs.Prelude as std
use Rattle.std.specs.Int.Bits.{bit_or}
use Rattle.profiles.specs.Profiles.{Mode, mode_r, mode_w, mode_a, mode_l, mode_m, mode_ix, mode_px, mode_Px, mode_ux, mode_Ux, mode_text, modes_text, profile_word}
use Rattle.profiles.specs.Tokens.{given}
use Rattle.profiles.specs.Reading.{Line, opens, enters, closes, line_text, line_in, mode_in, modes_in}
use Rattle.profiles.specs.declared.ScannedMode.{ScannedMode}
use Rattle.profiles.specs.declared.ScannedModes.{ScannedModes}
use Rattle.profiles.specs.declared.ScannedLine.{ScannedLine}
use Rattle.profiles.specs.declared.LineKind.TheVariants as K

-- ---- the bytes by which a line is told: those of `profile` and of `}` in front, and of `x` behind the first letter of a mode

abbrev pub letter_p : ℕ
letter_p = 112

abbrev pub closing_brace : ℕ
closing_brace = 125

abbrev pub letter_x : ℕ
letter_x = 120

-- ---- modes

-- each mode has a bit
unfoldable pub mode_bit : Mode → ℕ
mode_bit mode_r = 1
mode_bit mode_w = 2
mode_bit mode_a = 4
mode_bit mode_l = 8
mode_bit mode_m = 16
mode_bit mode_ix = 32
mode_bit mode_px = 64
mode_bit mode_Px = 128
mode_bit mode_ux = 256
mode_bit mode_Ux = 512

-- above every set of modes
abbrev pub modes_limit : ℕ
modes_limit = 2 ^ 10

-- the bits of a set and of modes
unfoldable pub with_modes : ℕ → List Mode → ℕ
with_modes n [] = n
with_modes n (m ∷ ms) = with_modes (bit_or n (mode_bit m)) ms

unfoldable pub mode_bits : List Mode → ℕ
mode_bits ms = with_modes 0 ms

-- the mode at a place, if there is one, with its length
unfoldable pub mode_scan : Option Mode → std.Option ScannedMode
mode_scan none = std.None
mode_scan (some m) = std.Some (record { bit = mode_bit m; width = length (mode_text m) })

-- the mode of two letters that has this bit, if the second is x
unfoldable pub with_x : ℕ → ℕ → std.Option ScannedMode
with_x second bit = cond (eqb second letter_x) (std.Some (record { bit = bit; width = 2 })) std.None

unfoldable pub mode_at : List ℕ → ℕ → std.Option ScannedMode
mode_at t at = mode_scan (mode_in (drop at t))

-- the modes at a place, and the place behind them
unfoldable pub modes_scan : ℕ → List Mode → ScannedModes
modes_scan at ms = record { bits = mode_bits ms; next = at + length (modes_text ms) }

unfoldable pub modes_at : List ℕ → ℕ → ScannedModes
modes_at t at = modes_scan at (modes_in (drop at t))

-- ---- lines

-- a line that stands at a place
unfoldable pub line_scan : ℕ → Line → ScannedLine
line_scan at (opens p) =
    record { kind = K.Profile; path = at + length profile_word; length = length p; modes = 0; next = at + length (line_text (opens p)) }
line_scan at (enters e) =
    record { kind = K.Entry; path = at; length = length e.path; modes = mode_bits e.modes; next = at + length (line_text (enters e)) }
line_scan at closes = record { kind = K.End; path = at; length = 0; modes = 0; next = at + length (line_text closes) }

-- the line at a place of the text, if there is one
unfoldable pub line_at : List ℕ → ℕ → std.Option ScannedLine
line_at t at = given (line_in (drop at t)) std.None (λ l. std.Some (line_scan at l))
