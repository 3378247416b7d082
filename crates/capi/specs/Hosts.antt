-- What a call leaves in the numbers that a host points to: "A refusal .. changes no lent memory" (the paper).
use Rattle.std.specs.Prelude.{ℕ, Bool, not, cond, ◌||◌, eqb, ltb}
use Rattle.answers.specs.Refusals.{matrix, lent_length}
use Rattle.answers.specs.declared.Received.{Received}
use Rattle.answers.specs.declared.Answer.{Answer}
use Rattle.answers.specs.Answers.{is_alert, is_blocked, received_of, answer_number}
use Rattle.monitor.specs.declared.Ran.{Ran}
use Rattle.events.specs.Events.{Gathered}
use Rattle.composition.specs.Images.{Composition}
use Rattle.trim.specs.Trims.{Trimmed}
use Rattle.witness.specs.Explains.{Explained}

-- a number that a host points to: the value, or what stood there if the call is refused
abbrev pub unless_refused : Bool → ℕ → ℕ → ℕ
unless_refused refused value old = cond refused old value

-- the same of a call that gives its refusal by itself, 0 if there is none
abbrev pub unless_refusal : ℕ → ℕ → ℕ → ℕ
unless_refusal refusal value old = unless_refused (not (eqb refusal 0)) value old

-- receiver, tag and position after a run, which writes them in an alert and where it is blocked
abbrev pub stop_after : Answer → Received → Received
stop_after a old = cond (is_alert a || is_blocked a) (received_of a) old

-- how many records were taken; 9, which changes nothing at all, leaves what stood there
abbrev pub taken_after : Ran → ℕ → ℕ
taken_after w old = unless_refused (eqb (answer_number w.answer) lent_length) w.taken old

-- how many records were taken, and how many events were written
abbrev pub gathered_after : Gathered → ℕ → ℕ
gathered_after w old = unless_refusal w.refusal w.taken old

abbrev pub written_after : Gathered → ℕ → ℕ
written_after w old = unless_refusal w.refusal w.written old

-- how many positions are kept of a trimmed trace
abbrev pub kept_after : Trimmed → ℕ → ℕ
kept_after w old = unless_refusal w.refusal w.kept old

-- the file where a chain begins that is told, and where the numbers of its records stand
abbrev pub file_after : Explained → ℕ → ℕ
file_after e old = unless_refusal e.refusal e.file old

abbrev pub first_after : Explained → ℕ → ℕ
first_after e old = unless_refusal e.refusal e.first old

-- one of the three numbers of a matrix verdict: the value, or what stood there if the matrix is refused
abbrev pub value_after : ℕ → ℕ → ℕ → ℕ
value_after number value old = unless_refused (eqb number matrix) value old

-- the length of an image that was composed; in a refusal, what stood there
abbrev pub length_after : Composition → ℕ → ℕ
length_after made old = unless_refusal made.refusal made.length old

-- one of the three numbers of a game's first move: the value, or what stood there if the game is refused, by a number above those of the two
-- sides
abbrev pub move_after : ℕ → ℕ → ℕ → ℕ
move_after number value old = unless_refused (ltb 1 number) value old
