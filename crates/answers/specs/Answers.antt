-- The answer to a record (the paper, "Operations": "Each answer gives receiver and tag"; "A refusal returns its number, zeros
-- elsewhere"): what its cases say, and the number and values of each. It carries the position of the first mixture of the receiver's
-- permit rule that covers the tag (change request No. 12).
use Rattle.std.specs.Prelude.{ℕ, Bool, true, false, cond, ◌==◌}
use Rattle.answers.specs.declared.Verdict.TheVariants.{Quiet, Alert, Blocked}
use Rattle.answers.specs.declared.Received.{Received}
use Rattle.answers.specs.declared.Answer.{Answer}
use Rattle.answers.specs.declared.Answer.TheVariants.{Given, Refused}

-- ---- the answers

-- by container c, which then has the tag t, covered at the position k of its permit rule
abbrev pub received : ℕ → ℕ → ℕ → Received
received c t k = record { receiver = c; tag = t; position = k }

abbrev pub quiet : ℕ → ℕ → ℕ → Answer
quiet c t k = Given Quiet (received c t k)

abbrev pub alert : ℕ → ℕ → ℕ → Answer
alert c t k = Given Alert (received c t k)

-- "answers blocked, with the receiver and the tag it would have had" (change request No. 9)
abbrev pub blocked : ℕ → ℕ → ℕ → Answer
blocked c t k = Given Blocked (received c t k)

abbrev pub refused : ℕ → Answer
refused n = Refused n

-- ---- their cases

-- the only place, with the listing's words, that takes the verdicts apart
abbrev pub is_quiet : Answer → Bool
is_quiet (Given Quiet e) = true
is_quiet (Given Alert e) = false
is_quiet (Given Blocked e) = false
is_quiet (Refused n) = false

abbrev pub is_alert : Answer → Bool
is_alert (Given Quiet e) = false
is_alert (Given Alert e) = true
is_alert (Given Blocked e) = false
is_alert (Refused n) = false

abbrev pub is_blocked : Answer → Bool
is_blocked (Given Quiet e) = false
is_blocked (Given Alert e) = false
is_blocked (Given Blocked e) = true
is_blocked (Refused n) = false

abbrev pub is_refused : Answer → Bool
is_refused (Given v e) = false
is_refused (Refused n) = true

-- "A step is accepted if it is answered quiet or alert": what is blocked is neither accepted nor refused
abbrev pub accepted : Answer → Bool
accepted (Given Quiet e) = true
accepted (Given Alert e) = true
accepted (Given Blocked e) = false
accepted (Refused n) = false

-- ---- their numbers and values

-- "zeros elsewhere"; of the position, "refusals 0" (change request No. 12)
abbrev pub received_of : Answer → Received
received_of (Given v e) = e
received_of (Refused n) = received 0 0 0

abbrev pub receiver_of : Answer → ℕ
receiver_of a = (received_of a).receiver

abbrev pub tag_of : Answer → ℕ
tag_of a = (received_of a).tag

abbrev pub position_of : Answer → ℕ
position_of a = (received_of a).position

abbrev pub quiet_number : ℕ
quiet_number = 0

-- apart from every refusal
abbrev pub alert_number : ℕ
alert_number = 256

-- apart from these two and every refusal
abbrev pub blocked_number : ℕ
blocked_number = 257

-- an answer as one number
abbrev pub answer_number : Answer → ℕ
answer_number (Given Quiet e) = quiet_number
answer_number (Given Alert e) = alert_number
answer_number (Given Blocked e) = blocked_number
answer_number (Refused n) = n

-- ---- answers through numbers that are lent

-- receiver, tag and position after an answer; in a refusal they are as they were
abbrev pub received_after : Answer → Received → Received
received_after a old = cond (is_refused a) old (received_of a)

-- the answer that a number and what was received stand for
unfoldable pub answer_with : ℕ → Received → Answer
answer_with n e =
    cond (n == quiet_number) (Given Quiet e)
    (cond (n == alert_number) (Given Alert e)
    (cond (n == blocked_number) (Given Blocked e)
    (Refused n)))
