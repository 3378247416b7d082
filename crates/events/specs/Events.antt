-- The records of a trace that are not answered quiet, gathered as events with their places, until there is no room for one more.
use Rattle.std.specs.Prelude.{ℕ, suc, ◌-◌, ◌/◌, Result, Ok, Err, Bool, not, cond, ◌&&◌, List, [], ◌∷◌, ◌++◌, eqb, leb, length, take}
use Rattle.fields.specs.Writing.{overwritten}
use Rattle.answers.specs.Refusals.{lent_length}
use Rattle.answers.specs.declared.Answer.{Answer}
use Rattle.answers.specs.declared.Refusal.{Refusal}
use Rattle.answers.specs.Outcomes.{refusal_number}
use Rattle.answers.specs.Answers.{is_quiet, receiver_of, tag_of, position_of, answer_number}
use Rattle.answers.specs.Tallies.{count_of}
use Rattle.session.specs.Session.{session_length_good}
use Rattle.records.specs.Traces.{trace_records}
use Rattle.monitor.specs.Runs.{run_answers, run_effect}
use Rattle.events.specs.declared.Gathered as code

-- ---- an event

-- an answer that is told
abbrev pub is_event : Answer → Bool
is_event a = not (is_quiet a)

-- the numbers of an event
abbrev pub event_length : ℕ
event_length = 5

-- the place of the record, its answer, the receiver, its tag and the position; of a refusal its number and "zeros elsewhere"
unfoldable pub event_of : ℕ → Answer → List ℕ
event_of place a = place ∷ answer_number a ∷ receiver_of a ∷ tag_of a ∷ position_of a ∷ []

-- the events of answers one behind the other, of which the first is that of the record at this place
unfoldable pub events_from : ℕ → List Answer → List ℕ
events_from place [] = []
events_from place (a ∷ l) = cond (is_quiet a) (events_from (suc place) l) (event_of place a ++ events_from (suc place) l)

-- ---- the room

-- what is left of the room for so many events behind an answer
unfoldable pub room_behind : ℕ → Answer → ℕ
room_behind room a = cond (is_quiet a) room (room - 1)

-- how many answers are taken where there is room for so many events: up to the first that finds no room for one more
unfoldable pub taken_in : ℕ → List Answer → ℕ
taken_in room [] = 0
taken_in room (a ∷ l) = cond (eqb room 0) 0 (suc (taken_in (room_behind room a) l))

-- ---- what a call gathers of the trace t, on the session s, into the numbers e

-- 9 unless the session has its length, and there is room for one event
unfoldable pub gather_good : List ℕ → List ℕ → Bool
gather_good s e = session_length_good s && leb event_length (length e)

-- the refusal, 0 if there is none, how many records are taken, and how many events are written
pub record Gathered : Type 0 where
  pub refusal : ℕ
  pub taken : ℕ
  pub written : ℕ

-- the same of a call's outcome
abbrev pub gathered_of : Result code.Gathered Refusal → Gathered
gathered_of (Ok g) = record { refusal = 0; taken = g.taken; written = g.written }
gathered_of (Err r) = record { refusal = refusal_number r; taken = 0; written = 0 }

unfoldable pub gathered : List ℕ → List ℕ → List ℕ → Gathered
gathered s t e =
    cond (gather_good s e)
    (record {
      refusal = 0;
      taken = taken_in (length e / event_length) (run_answers s (trace_records t));
      written = count_of is_event (take (taken_in (length e / event_length) (run_answers s (trace_records t))) (run_answers s (trace_records t)));
    })
    (record { refusal = lent_length; taken = 0; written = 0 })

-- the session that the records leave which are taken
unfoldable pub gather_session : List ℕ → List ℕ → List ℕ → List ℕ
gather_session s t e = run_effect s (take (gathered s t e).taken (trace_records t))

-- their events at the front of the numbers, those behind as they were
unfoldable pub gather_events : List ℕ → List ℕ → List ℕ → List ℕ
gather_events s t e = overwritten (events_from 0 (take (gathered s t e).taken (run_answers s (trace_records t)))) 0 e
