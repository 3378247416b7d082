-- THE EVENTS OF A TRACE: what is proved of a call that gathers them. `gathered`, `gather_session` and `gather_events` (specs/Events.antt) are all
-- that a call answers and leaves; they are stated over `run_answers` and `run_effect`, of which demand 3 speaks (crates/monitor/proofs/Theorems.antt).
use Prim.Native.Nat.{ℕ, ◌+◌, ◌*◌, ◌/◌, ◌≤◌, ◌<◌}
use native.Mathlib.Omega.{arith}
use mathlib.Core.Path.{◌≡◌, refl, sym, ap, ◌∙◌}
use mathlib.Core.Bool.{Bool, true, false, cond}
use mathlib.Core.List.{List, ◌∷◌, ◌++◌}
use mathlib.Core.Option.{some}
use lib.ListN.{length, take, drop, get_elem?}
use lib.Seq.{take_all, length-take-le}
use Rattle.lists.proofs.Bools.{and_1}
use borrow.Author.Tests.{leb-true}
use Rattle.answers.specs.Refusals.{lent_length}
use Rattle.answers.specs.declared.Answer.{Answer}
use Rattle.answers.specs.Answers.{is_quiet}
use Rattle.answers.specs.Tallies.{count_of}
use Rattle.session.specs.Session.{session_length_good}
use Rattle.records.specs.Records.{record_length}
use Rattle.records.specs.Traces.{trace_records}
use Rattle.records.proofs.TraceRecords.{next_record}
use Rattle.monitor.specs.Runs.{step_on, run_answers, run_effect}
use Rattle.monitor.proofs.RunHistories.{answers_take}
use Rattle.monitor.proofs.StopLaws.{answers_split, effect_split}
use Rattle.monitor.proofs.TraceCuts.{answers_length}
use Rattle.events.specs.Events.{Gathered, is_event, event_length, event_of, events_from, taken_in, gather_good, gathered, gather_session, gather_events}
use Rattle.events.proofs.EventLaws as laws
use Rattle.events.proofs.EventLaws.{taken_all, taken_most, taken_some, events_append}
use Rattle.events.proofs.GatherLoop.{gather_9}

-- ---- the events of a list of answers, of which the first is at the place p

-- The answer number n, if it is not quiet, is told: its event stands behind those of the answers before it that are not quiet.
pub event_told : (p : ℕ) (l : List Answer) (n : ℕ) (a : Answer) → get_elem? l n ≡ some a → is_quiet a ≡ false
    → take event_length (drop (count_of is_event (take n l) * event_length) (events_from p l)) ≡ event_of (p + n) a
event_told = laws.event_told

-- And no other: there are as many events as answers that are not quiet.
pub events_length : (p : ℕ) (l : List Answer) → length (events_from p l) ≡ count_of is_event l * event_length
events_length = laws.events_length

-- ---- the room

-- A room, and behind it another on what is left, take as many answers as both at once.
pub taken_on : (r q : ℕ) (l : List Answer) → taken_in (r + q) l ≡ taken_in r l + taken_in q (drop (taken_in r l) l)
taken_on = laws.taken_on

-- ---- a call

module _ (s t e : List ℕ) (g : gather_good s e ≡ true) where
  wide : event_length ≤ length e
  unfolding gather_good
  wide = leb-true event_length (length e) (and_1 (session_length_good s) g)

  taken_is : (gathered s t e).taken ≡ taken_in (length e / event_length) (run_answers s (trace_records t))
  unfolding gathered
  taken_is = rw g

  -- It is accepted, and tells how many events it wrote.
  pub gather_accepted : (gathered s t e).refusal ≡ 0
  unfolding gathered
  gather_accepted = rw g

  pub written_told : (gathered s t e).written ≡ count_of is_event (take (gathered s t e).taken (run_answers s (trace_records t)))
  unfolding gathered
  written_told = rw g

  -- Five numbers for each record are room for all: it takes them to their end, writes the events of all answers and leaves the session of all.
  module _ (r : length (trace_records t) * event_length ≤ length e) where
    pub gather_all : (gathered s t e).taken ≡ length (trace_records t)
    gather_all =
        taken_is
        ∙ taken_all (length e / event_length) (run_answers s (trace_records t)) (omega (arith, r, answers_length s (trace_records t)))
        ∙ answers_length s (trace_records t)

    pub gather_all_session : gather_session s t e ≡ run_effect s (trace_records t)
    unfolding gather_session
    gather_all_session = rw (gather_all, take_all (length (trace_records t)) (trace_records t) (omega arith))

    pub gather_all_events : take (gathered s t e).taken (run_answers s (trace_records t)) ≡ run_answers s (trace_records t)
    gather_all_events = rw gather_all (take_all (length (trace_records t)) (run_answers s (trace_records t)) (omega (arith, answers_length s (trace_records t))))

  -- It takes at least one record, if there is one.
  pub gather_some : 0 < length t → 1 ≤ (gathered s t e).taken
  gather_some l = rw taken_is (some_taken (trace_records t) (ne t l))
    where
      room : 0 < length e / event_length
      room = omega (arith, wide)

      ne : (t : List ℕ) → 0 < length t → (rs : List (List ℕ)) × (x : List ℕ) × (trace_records t ≡ x ∷ rs)
      ne t l = (_, _, next_record t 0 l)

      some_taken : (xs : List (List ℕ)) → (rs : List (List ℕ)) × (x : List ℕ) × (xs ≡ x ∷ rs) → 1 ≤ taken_in (length e / event_length) (run_answers s xs)
      some_taken xs (rs, x, q) = rw q (unfold run_answers in taken_some (length e / event_length) (step_on s x).1 (run_answers (step_on s x).0 rs) room)

taken_within : (s t e : List ℕ) → (gathered s t e).taken ≤ length (run_answers s (trace_records t))
unfolding gathered
taken_within s t e = by (gather_good s e)
  where
    l : List Answer
    l = run_answers s (trace_records t)

    by : (b : Bool)
        → (cond {A = Gathered} b (record { refusal = 0; taken = taken_in (length e / event_length) l; written = count_of is_event (take (taken_in (length e / event_length) l) l) })
        (record { refusal = lent_length; taken = 0; written = 0 })).taken ≤ length l
    by true = taken_most (length e / event_length) l
    by false = omega arith

-- the answers of the rest are those of the whole
answers_on : (s t e : List ℕ)
    → run_answers s (trace_records t)
    ≡ take (gathered s t e).taken (run_answers s (trace_records t)) ++ run_answers (gather_session s t e) (trace_records (drop ((gathered s t e).taken * record_length) t))
unfolding gather_session run_answers
answers_on s t e =
    let n : ℕ = (gathered s t e).taken in
    answers_split s t n
    ∙ ap (λ (l : List Answer). l ++ run_answers (run_effect s (take n (trace_records t))) (trace_records (drop (n * record_length) t))) (answers_take n s (trace_records t))

-- The rest of the bytes, on the session that is left, goes on where it stopped: the events of the whole are those of the call and, with their
-- places counted on, those of the rest; the session of the whole is that of the rest.
pub gather_on : (s t e : List ℕ)
    → (events_from 0 (run_answers s (trace_records t))
    ≡ events_from 0 (take (gathered s t e).taken (run_answers s (trace_records t)))
    ++ events_from (gathered s t e).taken
    (run_answers (gather_session s t e) (trace_records (drop ((gathered s t e).taken * record_length) t))))
    × (run_effect s (trace_records t) ≡ run_effect (gather_session s t e) (trace_records (drop ((gathered s t e).taken * record_length) t)))
gather_on s t e =
    let n : ℕ = (gathered s t e).taken in
    let l : List Answer = run_answers s (trace_records t) in
    let m : List Answer = run_answers (gather_session s t e) (trace_records (drop (n * record_length) t)) in
    let k : 0 + length (take n l) ≡ n = omega (arith, length-take-le n l (taken_within s t e)) in
    (ap (events_from 0) (answers_on s t e) ∙ events_append 0 (take n l) m ∙ ap (λ (i : ℕ). events_from 0 (take n l) ++ events_from i m) k, unfold gather_session in (effect_split s t n))

-- 9 exactly where the session or the room is too short, and then nothing changes.
pub gather_refused : (s t e : List ℕ) → gather_good s e ≡ false
    → (gathered s t e ≡ record { refusal = lent_length; taken = 0; written = 0 }) × (gather_session s t e ≡ s) × (gather_events s t e ≡ e)
gather_refused s t e g = let h = gather_9 s t e g _ refl in (sym h.0, sym h.1, sym h.2)
