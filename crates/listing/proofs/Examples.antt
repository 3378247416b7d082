-- The paper's listing and numbers as text, each computed from the definitions.
use mathlib.Core.Path.{◌≡◌, refl}
use mathlib.Core.List.{[], ◌∷◌, map}
use Rattle.fields.specs.Ascii.{ascii}
use Rattle.answers.specs.Answers.{quiet, alert, blocked, refused}
use Rattle.listing.specs.Text.{digit, digits, decimal_in, decimal, hexadecimal}
use Rattle.listing.specs.Lines.{line, operation_word, verdict_word, answer_word, answer_fields, heading, step_line, short_line, total_line, policy_line}

-- ---- the listing

names_the_fields : heading ≡ ascii "step op p o verdict at tag pos\n"
unfolding heading line ascii
names_the_fields = refl

step_1 : step_line 1 1 4 2 (quiet 4 4 0) ≡ ascii "1 read 4 2 quiet 4 0000000000000004 0\n"
unfolding step_line operation_word answer_word answer_fields verdict_word line decimal decimal_in hexadecimal digits digit ascii
step_1 = refl

step_2 : step_line 2 3 4 0 (quiet 0 5 0) ≡ ascii "2 append 4 0 quiet 0 0000000000000005 0\n"
unfolding step_line operation_word answer_word answer_fields verdict_word line decimal decimal_in hexadecimal digits digit ascii
step_2 = refl

step_3 : step_line 3 1 5 0 (quiet 5 5 0) ≡ ascii "3 read 5 0 quiet 5 0000000000000005 0\n"
unfolding step_line operation_word answer_word answer_fields verdict_word line decimal decimal_in hexadecimal digits digit ascii
step_3 = refl

step_4 : step_line 4 3 5 1 (alert 1 7 255) ≡ ascii "4 append 5 1 alert 1 0000000000000007 255\n"
unfolding step_line operation_word answer_word answer_fields verdict_word line decimal decimal_in hexadecimal digits digit ascii
step_4 = refl

step_5 : step_line 5 2 6 1 (quiet 1 0 0) ≡ ascii "5 write 6 1 quiet 1 0000000000000000 0\n"
unfolding step_line operation_word answer_word answer_fields verdict_word line decimal decimal_in hexadecimal digits digit ascii
step_5 = refl

step_6 : step_line 6 1 6 9 (refused 12) ≡ ascii "6 read 6 9 refused 12\n"
unfolding step_line operation_word answer_word answer_fields verdict_word line decimal decimal_in hexadecimal digits digit ascii
step_6 = refl

last_line : total_line 6 1 1 ≡ ascii "total 6 alerts 1 refused 1\n"
unfolding total_line line decimal decimal_in digit ascii
last_line = refl

-- ---- the other lines

short_record : short_line 1000001 ≡ ascii "1000001 other 0 0 refused 7\n"
unfolding short_line line decimal decimal_in digit ascii
short_record = refl

refused_policy : policy_line 1 ≡ ascii "policy refused 1\n"
unfolding policy_line line decimal decimal_in digit ascii
refused_policy = refl

every_word : map operation_word (1 ∷ 2 ∷ 3 ∷ 4 ∷ 5 ∷ 6 ∷ 7 ∷ 8 ∷ 9 ∷ [])
    ≡ map ascii ("read" ∷ "write" ∷ "append" ∷ "exec" ∷ "fork" ∷ "file" ∷ "volatile" ∷ "end" ∷ "delete" ∷ [])
unfolding operation_word ascii
every_word = refl

unknown_codes : map operation_word (0 ∷ 10 ∷ 255 ∷ []) ≡ map ascii ("other" ∷ "other" ∷ "other" ∷ [])
unfolding operation_word ascii
unknown_codes = refl

-- an access that is blocked
blocked_access : step_line 7 3 5 1 (blocked 1 7 255) ≡ ascii "7 append 5 1 blocked 1 0000000000000007 255\n"
unfolding step_line operation_word answer_word answer_fields verdict_word line decimal decimal_in hexadecimal digits digit ascii
blocked_access = refl

-- the longest line
longest_line : step_line 18446744073709551615 7 18446744073709551615 18446744073709551615 (blocked 18446744073709551615 18446744073709551615 255)
    ≡ ascii "18446744073709551615 volatile 18446744073709551615 18446744073709551615 blocked 18446744073709551615 ffffffffffffffff 255\n"
unfolding step_line operation_word answer_word answer_fields verdict_word line decimal decimal_in hexadecimal digits digit ascii
longest_line = refl

-- ---- numbers

in_decimal : map decimal (0 ∷ 9 ∷ 10 ∷ 99 ∷ 100 ∷ 255 ∷ 999 ∷ 1000 ∷ 5280 ∷ 18446744073709551615 ∷ [])
    ≡ map ascii ("0" ∷ "9" ∷ "10" ∷ "99" ∷ "100" ∷ "255" ∷ "999" ∷ "1000" ∷ "5280" ∷ "18446744073709551615" ∷ [])
unfolding decimal decimal_in digit ascii
in_decimal = refl

in_hexadecimal : map hexadecimal (0 ∷ 0x0123456789abcdef ∷ 18446744073709551615 ∷ [])
    ≡ map ascii ("0000000000000000" ∷ "0123456789abcdef" ∷ "ffffffffffffffff" ∷ [])
unfolding hexadecimal digits digit ascii
in_hexadecimal = refl
