-- The lines of the listing, as the paper's "Checked examples" words them.
use Rattle.std.specs.Prelude.{ℕ, cond, List, [], ◌∷◌, ◌++◌, eqb}
use Rattle.answers.specs.declared.Tally.{Tally}
use Rattle.fields.specs.Ascii.{ascii}
use Rattle.listing.specs.Text.{decimal, hexadecimal}
use Rattle.answers.specs.declared.Verdict.{Verdict}
use Rattle.answers.specs.declared.Verdict.TheVariants.{Quiet, Alert, Blocked}
use Rattle.answers.specs.declared.Answer.{Answer}
use Rattle.answers.specs.declared.Answer.TheVariants.{Given, Refused}

-- the byte between two fields
abbrev pub space : ℕ
space = 32

-- "byte 10"
abbrev pub newline : ℕ
newline = 10

-- "Fields stand one space apart, and byte 10 ends each line": the line of a field and those behind it
unfoldable pub line : List ℕ → List (List ℕ) → List ℕ
line f [] = f ++ (newline ∷ [])
line f (g ∷ gs) = f ++ (space ∷ line g gs)

-- fields with the space behind each: the part of a line before its last fields
unfoldable pub spaced : List (List ℕ) → List ℕ
spaced [] = []
spaced (f ∷ fs) = f ++ (space ∷ spaced fs)

-- fields with the space in front of each: the part of a line behind its first fields
unfoldable pub leading : List (List ℕ) → List ℕ
leading [] = []
leading (f ∷ fs) = space ∷ (f ++ leading fs)

-- "Words: read, write, append, exec, fork, file, volatile, other (unknown code)"; of codes 8 and 9 "`end` and `delete`" (change
-- request No. 4)
unfoldable pub operation_word : ℕ → List ℕ
operation_word code =
    cond (eqb code 1) (ascii "read")
    (cond (eqb code 2) (ascii "write")
    (cond (eqb code 3) (ascii "append")
    (cond (eqb code 4) (ascii "exec")
    (cond (eqb code 5) (ascii "fork")
    (cond (eqb code 6) (ascii "file")
    (cond (eqb code 7) (ascii "volatile")
    (cond (eqb code 8) (ascii "end")
    (cond (eqb code 9) (ascii "delete")
    (ascii "other")))))))))

-- the verdict's word, as in the paper's listing; "The listing's verdict word is `blocked`" (change request No. 9)
unfoldable pub verdict_word : Verdict → List ℕ
verdict_word Quiet = ascii "quiet"
verdict_word Alert = ascii "alert"
verdict_word Blocked = ascii "blocked"

-- the field of the verdict
unfoldable pub answer_word : Answer → List ℕ
answer_word (Given verdict received) = verdict_word verdict
answer_word (Refused number) = ascii "refused"

-- "receiver, tag in 16 hexadecimal digits (small letters), or the refusal number": the fields behind it; the position "as a last
-- field" of "steps not refused" (change request No. 12)
unfoldable pub answer_fields : Answer → List (List ℕ)
answer_fields (Given verdict received) = decimal received.receiver ∷ hexadecimal received.tag ∷ decimal received.position ∷ []
answer_fields (Refused number) = decimal number ∷ []

-- "The first line names the fields"; the last is "headed `pos`" (change request No. 12)
unfoldable pub heading : List ℕ
heading =
    line (ascii "step") (ascii "op" ∷ ascii "p" ∷ ascii "o" ∷ ascii "verdict" ∷ ascii "at" ∷ ascii "tag" ∷ ascii "pos" ∷ [])

-- "Fields: step, operation, p, o, verdict, receiver, tag .., or the refusal number"
unfoldable pub step_line : ℕ → ℕ → ℕ → ℕ → Answer → List ℕ
step_line step code p o answer =
    line (decimal step) (operation_word code ∷ decimal p ∷ decimal o ∷ answer_word answer ∷ answer_fields answer)

-- "a short last record counts as a step and is listed, behind its step number, as `other 0 0 refused 7`"
unfoldable pub short_line : ℕ → List ℕ
short_line step = line (decimal step) (ascii "other 0 0 refused 7" ∷ [])

-- "the last gives the number of records, alerts and refusals"
unfoldable pub total_line : ℕ → ℕ → ℕ → List ℕ
total_line records alerts refused =
    line (ascii "total") (decimal records ∷ ascii "alerts" ∷ decimal alerts ∷ ascii "refused" ∷ decimal refused ∷ [])

-- the same of a tally
unfoldable pub total_of : Tally → List ℕ
total_of t = total_line t.records t.alerts t.refused

-- "A refused policy prints only `policy refused` and its number"
unfoldable pub policy_line : ℕ → List ℕ
policy_line number = line (ascii "policy refused") (decimal number ∷ [])
