-- What is proved of the listing, beside the contracts of src/: the statements, each with the law that proves it.
-- `decimal`, `hexadecimal` and `decimal_value` are the definitions of specs/Text.antt, the lines those of specs/Lines.antt,
-- `WroteWithSpare` is that of specs/Buffer.antt.
use Prim.Native.Nat.{ℕ, ◌+◌, ◌/◌, ◌%◌, ◌^◌, ◌≤◌, ◌<◌}
use native.Mathlib.Omega.{arith}
use mathlib.Core.Path.{◌≡◌, refl}
use mathlib.Core.List.{List, [], ◌∷◌, ◌++◌}
use lib.ListN.{length, get_or, take}
use Rattle.fields.specs.Ascii.{ascii}
use Rattle.answers.specs.declared.Answer.{Answer}
use Rattle.answers.specs.Refusals.{operation_record}
use Rattle.answers.specs.Answers.{position_of, refused}
use Rattle.listing.specs.Text.{digit, decimal_limit, decimal_in, decimal, tag_digits, hexadecimal, decimal_value}
use Rattle.listing.specs.Lines.{line, operation_word, verdict_word, answer_word, answer_fields, heading, step_line, short_line, total_line, policy_line}
use Rattle.listing.specs.Buffer.{line_limit, WroteWithSpare, ListedText}
use Rattle.fields.specs.Writing.{Wrote}
use Rattle.listing.proofs.NumberTexts as text
use Rattle.listing.proofs.ListingLines as lines
use Rattle.listing.proofs.BufferLaws as buffer

-- ---- numbers

-- the digits are the bytes from 48 on
pub digit_code : (d : ℕ) → d < 10 → digit d ≡ 48 + d
digit_code = text.digit_low

-- a number below 10 is one digit; any other is a tenth of it and its last digit
pub decimal_below : (n : ℕ) → n < 10 → decimal n ≡ digit n ∷ []
decimal_below = text.decimal_below

pub decimal_above : (n : ℕ) → 10 ≤ n → n < 10 ^ decimal_limit → decimal n ≡ decimal (n / 10) ++ (digit (n % 10) ∷ [])
decimal_above = text.decimal_above

-- the digits spell the number
pub decimal_spells : (n : ℕ) → n < 10 ^ decimal_limit → decimal_value 0 (decimal n) ≡ n
decimal_spells = text.value_decimal

-- no leading zeros
pub decimal_leads : (n : ℕ) → 0 < n → n < 10 ^ decimal_limit → digit 0 < get_or (decimal n) 0 0
unfolding digit ascii
decimal_leads = text.first_decimal

-- the numbers of 64 bits are among those
pub decimal_serves : (n : ℕ) → n < 2 ^ 64 → n < 10 ^ decimal_limit
decimal_serves n h = omega arith

-- no number has more digits than the functions ask room for
pub decimal_fits : (n : ℕ) → length (decimal n) ≤ decimal_limit
decimal_fits = text.decimal_length

pub hexadecimal_length : (tag : ℕ) → length (hexadecimal tag) ≡ tag_digits
hexadecimal_length = text.hexadecimal_length

-- ---- lines

-- a short last record is listed as a step with an unknown code that is refused with 7
pub short_step : (step : ℕ) → short_line step ≡ step_line step 0 0 0 (refused operation_record)
unfolding short_line step_line line operation_word answer_word answer_fields verdict_word decimal decimal_in digit ascii
short_step step = refl

-- no line has more bytes than the functions ask room for; a position is a byte
pub step_fits : (step code p o : ℕ) (x : Answer) → position_of x < 256 → length (step_line step code p o x) ≤ line_limit
step_fits = lines.step_length

pub heading_fits : length heading ≤ line_limit
heading_fits = lines.heading_length

pub short_fits : (step : ℕ) → length (short_line step) ≤ line_limit
short_fits = lines.short_length

pub total_fits : (records alerts refused : ℕ) → length (total_line records alerts refused) ≤ line_limit
total_fits = lines.total_length

pub policy_fits : (number : ℕ) → length (policy_line number) ≤ line_limit
policy_fits = lines.policy_length

-- ---- buffers

-- bytes behind a text that do not count are overwritten by the next text
pub spare_join : {x y before between after : List ℕ} {at next end spare : ℕ} → (more : ℕ) → spare ≤ length y + more
    → WroteWithSpare x spare before between at next → WroteWithSpare y more between after next end → WroteWithSpare (x ++ y) more before after at end
spare_join = buffer.spare_join

-- where there are none, every other byte is as it was
pub spare_none : {x before after : List ℕ} {at next : ℕ} → WroteWithSpare x 0 before after at next → Wrote x before after at next
spare_none = buffer.spare_none

-- a line at the front of a buffer is inside it
pub line_listed : {text before after : List ℕ} {end : ℕ} → length text ≤ line_limit → Wrote text before after 0 end → ListedText text before after end
line_listed = buffer.line_listed

-- what is listed in front of a buffer is read there
pub listed_front : (text before after : List ℕ) (end : ℕ) → ListedText text before after end → take end after ≡ text
listed_front = buffer.listed_front
