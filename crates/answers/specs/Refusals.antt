-- The refusal numbers (the paper, "Refused because of the input" and "Refused because of the session"; change requests No. 1, 5, 6,
-- 10, 11, 13 and 14; the last two are of explanations, which the paper does not have), each named once.
use Rattle.std.specs.Prelude.{ℕ}

-- "1 image under 18 or over 20,480 bytes"
abbrev pub image_length : ℕ
image_length = 1

-- 2: the leading number "or the pairs"; "Every image now leads with a 16-bit 5, and 2 refuses the old 4" (No. 10)
abbrev pub sections : ℕ
sections = 2

-- "3 section length no multiple, or too many records"
abbrev pub record_count : ℕ
record_count = 3

-- "4 rule record"
abbrev pub rule_record : ℕ
rule_record = 4

-- "5 container record"
abbrev pub container_record : ℕ
container_record = 5

-- "6 user's rule number"
abbrev pub user_rule : ℕ
user_rule = 6

-- "7 operation record"
abbrev pub operation_record : ℕ
operation_record = 7

-- "8 matrix"
abbrev pub matrix : ℕ
matrix = 8

-- "9 session of wrong length or output" for a normal image that does not "hold 19,506 bytes"
abbrev pub lent_length : ℕ
lent_length = 9

-- "10 a named row .. is not as "Session" says"
abbrev pub row : ℕ
row = 10

-- "11 p is no process"
abbrev pub no_process : ℕ
no_process = 11

-- "12 o of the wrong kind"
abbrev pub wrong_kind : ℕ
wrong_kind = 12

-- "13 o not free"
abbrev pub not_free : ℕ
not_free = 13

-- "14 u not declared"
abbrev pub not_declared : ℕ
not_declared = 14

-- "15 a meet has over 8 mixtures"
abbrev pub over_limit : ℕ
over_limit = 15

-- change request No. 1: "16 when the text is too long, breaks the grammar or profiles a path twice"
abbrev pub profile_text : ℕ
profile_text = 16

-- "17 when it has over 32 paths or a rule over 8 mixtures in normal form"
abbrev pub profile_limit : ℕ
profile_limit = 17

-- change request No. 5: "18 when code 6 names a user other than p's own recorded one"
abbrev pub other_user : ℕ
other_user = 18

-- change request No. 6: "19 when a trace has over 1,000,000 records"
abbrev pub trace_length : ℕ
trace_length = 19

-- change request No. 11: "20 when containers differ in number, kind or atom, users differ in number, the consent input is not 32
-- bytes, or a consent byte is neither 0 nor 1"
abbrev pub composition_input : ℕ
composition_input = 20

-- "21 when a place has over 8 mixtures in normal form or over 256 rules are needed"
abbrev pub composition_limit : ℕ
composition_limit = 21

-- change request No. 13: "22 when the trace is empty, too long, has a refused or blocked record or does not end in an alert"
abbrev pub trim_trace : ℕ
trim_trace = 22

-- change request No. 14: "23 when a = b, either is no object, or a count is outside these bounds"
abbrev pub game_bounds : ℕ
game_bounds = 23

-- an explanation is asked for of a number that is no container's or no atom's
abbrev pub explain_bounds : ℕ
explain_bounds = 24

-- an explanation is asked for of a trace whose last record is neither answered by an alert nor blocked
abbrev pub explain_trace : ℕ
explain_trace = 25
