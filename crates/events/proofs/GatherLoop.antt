-- The loop of `gather_events`, record by record: what the records come to that are left, behind what was gathered, is what the whole trace comes to.
use Prim.Native.Nat.{ℕ, suc, ◌+◌, ◌-◌, ◌*◌, ◌/◌, ◌≤◌, ◌<◌}
use native.Mathlib.Omega.{arith}
use mathlib.Core.Path.{◌≡◌, refl, sym, ap, ◌∙◌}
use mathlib.Core.Bool.{true, false}
use mathlib.Core.List.{List, [], ◌∷◌, ◌++◌}
use lib.Dec.{leb}
use lib.ListN.{length, take}
use borrow.Author.Tests.{eq-eqb, ne_eqb, le-leb, leb-true}
use Rattle.lists.proofs.Bools.{and_in, refuted}
use Rattle.fields.specs.Writing.{overwritten, Wrote}
use Rattle.fields.proofs.WritingLaws.{wrote_none, wrote_join, wrote_length}
use Rattle.answers.specs.Refusals.{lent_length}
use Rattle.answers.specs.declared.Answer.{Answer}
use Rattle.answers.specs.Answers.{is_quiet}
use Rattle.answers.specs.Tallies.{count_of}
use Rattle.session.specs.Limits.{session_length}
use Rattle.session.specs.Session.{session_length_good}
use Rattle.records.specs.Traces.{trace_records}
use Rattle.records.proofs.TraceRecords.{FirstChunk, chunk_length, next_chunk, no_chunk}
use Rattle.monitor.specs.Steps.{step_answer, step_effect}
use Rattle.monitor.specs.Runs.{step_on, run_answers, run_effect}
use Rattle.events.specs.Events.{Gathered, is_event, event_length, event_of, events_from, room_behind, taken_in, gather_good, gathered, gather_session, gather_events}
use Rattle.events.proofs.EventLaws.{taken_none}

-- ---- a list of records, with room for so many events, the first at this place

-- n of its records are taken, w events are ev, and the session afterwards is s'
pub record ComesTo (s : List ℕ) (rs : List (List ℕ)) (room place n w : ℕ) (s' ev : List ℕ) : Type 0 where
  pub taken : taken_in room (run_answers s rs) ≡ n
  pub count : count_of is_event (take n (run_answers s rs)) ≡ w
  pub leaves : run_effect s (take n rs) ≡ s'
  pub events : events_from place (take n (run_answers s rs)) ≡ ev

-- no record is left
comes_none : (s : List ℕ) (room place : ℕ) → ComesTo s [] room place 0 0 s []
unfolding run_answers run_effect taken_in events_from count_of
comes_none s room place = record { taken = refl; count = refl; leaves = refl; events = refl }

-- no room is left
comes_full : (s : List ℕ) (rs : List (List ℕ)) (place : ℕ) → ComesTo s rs 0 place 0 0 s []
comes_full s rs place = record { taken = taken_none (run_answers s rs); count = unfold count_of in refl; leaves = unfold run_effect in refl; events = unfold events_from in refl }

module _ (s x : List ℕ) (rs : List (List ℕ)) (room place n w : ℕ) (s' ev : List ℕ) where
  pub comes_quiet : is_quiet (step_answer s x) ≡ true → 0 < room → ComesTo (step_effect s x) rs room (suc place) n w s' ev → ComesTo s (x ∷ rs) room place (suc n) w s' ev
  unfolding run_answers run_effect taken_in room_behind events_from count_of step_on
  comes_quiet q l h =
      record {
        taken = rw (q, ne_eqb room 0 (λ z. omega (arith, z, l))) (ap suc h.taken);
        count = rw q h.count;
        leaves = h.leaves;
        events = rw q h.events;
      }

  pub comes_event : is_quiet (step_answer s x) ≡ false → 0 < room → ComesTo (step_effect s x) rs (room - 1) (suc place) n w s' ev
      → ComesTo s (x ∷ rs) room place (suc n) (suc w) s' (event_of place (step_answer s x) ++ ev)
  unfolding run_answers run_effect taken_in room_behind events_from count_of step_on
  comes_event q l h =
      record {
        taken = rw (q, ne_eqb room 0 (λ z. omega (arith, z, l))) (ap suc h.taken);
        count = rw q (ap suc h.count);
        leaves = h.leaves;
        events = rw q (ap (λ (l : List ℕ). event_of place (step_answer s x) ++ l) h.events);
      }

-- an event leaves the length of the numbers
event_length_lem : (place : ℕ) (a : Answer) (e e₁ : List ℕ) (at : ℕ) → at + event_length ≤ length e → Wrote (event_of place a) e e₁ at (at + event_length) → length e₁ ≡ length e
unfolding event_of
event_length_lem place a e e₁ at h w = wrote_length h w

-- ---- the loop: taken records are judged, written events stand at the front of e, rest is what is left of the trace, s the session now

-- what a call answers and leaves
abbrev pub Whole : List ℕ → List ℕ → List ℕ → Gathered → List ℕ → List ℕ → Type 0
Whole s₀ t e₀ r s e = (r ≡ gathered s₀ t e₀) × (s ≡ gather_session s₀ t e₀) × (e ≡ gather_events s₀ t e₀)

pub record Gathering (s₀ t e₀ s e rest : List ℕ) (room taken written : ℕ) : Type 0 where
  pub long : length s ≡ length s₀
  pub wide : length e ≡ length e₀
  pub fits : room * event_length ≤ length e
  pub fewer : taken + length rest ≤ length t
  pub free : written < room
  pub whole : (n w : ℕ) (s' ev : List ℕ) → ComesTo s (trace_records rest) (room - written) taken n w s' ev
      → (e' : List ℕ) (k : ℕ) → Wrote ev e e' (written * event_length) k
      → (r : Gathered) → r ≡ record { refusal = 0; taken = taken + n; written = written + w } → Whole s₀ t e₀ r s' e'

module _ (s t e : List ℕ) (l : length s ≡ session_length) (m : event_length ≤ length e) where
  good : gather_good s e ≡ true
  unfolding gather_good session_length_good
  good = and_in (eq-eqb (length s) session_length l) (le-leb event_length (length e) m)

  -- the whole trace
  begun : (n w : ℕ) (s' ev : List ℕ) → ComesTo s (trace_records t) (length e / event_length) 0 n w s' ev → (e' : List ℕ) (k : ℕ) → Wrote ev e e' 0 k
      → (r : Gathered) → r ≡ record { refusal = 0; taken = n; written = w } → Whole s t e r s' e'
  unfolding gathered gather_session gather_events
  begun n w s' ev c e' k p r re =
      rw (good, c.taken) (re ∙ ap (λ (i : ℕ). record { refusal = 0; taken = n; written = i }) (sym c.count), sym c.leaves, p.buffer ∙ ap (λ (x : List ℕ). overwritten x 0 e) (sym c.events))

  pub gather_start : (rest : List ℕ) → rest ≡ t → (room : ℕ) → room ≡ length e / event_length → Gathering s t e s e rest room 0 0
  gather_start rest left room re =
      rw left (record {
        long = refl;
        wide = refl;
        fits = omega (arith, re);
        fewer = omega arith;
        free = omega (arith, re, m);
        whole = λ n w s' ev c e' k p r q.
            let z : room - 0 ≡ length e / event_length = omega (arith, re) in
            let x : 0 + n ≡ n = omega arith in
            let y : 0 + w ≡ w = omega arith in
            begun n w s' ev (rw z at c) e' k p r (rw (x, y) at q);
      })

module _ (s₀ t e₀ s e rest : List ℕ) (room taken written : ℕ) (h : Gathering s₀ t e₀ s e rest room taken written) where
  -- no record is left
  pub gather_end : length rest ≡ 0 → (r : Gathered) → r ≡ record { refusal = 0; taken = taken; written = written } → Whole s₀ t e₀ r s e
  gather_end l r re =
      let x : taken + 0 ≡ taken = omega arith in
      let y : written + 0 ≡ written = omega arith in
      h.whole 0 0 s [] (rw (no_chunk rest l) (comes_none s (room - written) taken)) e (written * event_length) (wrote_none (written * event_length) e) r (rw (x, y) re)

  module _ (x left s' : List ℕ) (a : Answer) (g : FirstChunk rest x left) (se : s' ≡ step_effect s x) (ae : a ≡ step_answer s x)
      (sl : length s' ≡ length s) where
    next : trace_records rest ≡ x ∷ trace_records left
    next = next_chunk g

    -- a quiet record
    pub gather_quiet : is_quiet a ≡ true → Gathering s₀ t e₀ s' e left room (taken + 1) written
    gather_quiet q =
        record {
          long = sl ∙ h.long;
          wide = h.wide;
          fits = h.fits;
          fewer = omega (arith, h.fewer, chunk_length g);
          free = h.free;
          whole = λ n w s'' ev c e' k p r re.
              let z : taken + 1 ≡ suc taken = omega arith in
              let f : taken + suc n ≡ taken + 1 + n = omega arith in
              h.whole (suc n) w s'' ev
              (rw next (comes_quiet s x (trace_records left) (room - written) taken n w s'' ev (rw ae at q) (omega (arith, h.free)) (rw (se, z) at c)))
              e' k p r (rw f re);
        }

    -- an event, behind which there is room or not
    module _ (q : is_quiet a ≡ false) (e₁ : List ℕ) (we : Wrote (event_of taken a) e e₁ (written * event_length) (written * event_length + event_length)) where
      behind : (n w : ℕ) (s'' ev : List ℕ) → ComesTo s' (trace_records left) (room - (written + 1)) (taken + 1) n w s'' ev
          → (e' : List ℕ) (k : ℕ) → Wrote ev e₁ e' ((written + 1) * event_length) k
          → (r : Gathered) → r ≡ record { refusal = 0; taken = taken + 1 + n; written = written + 1 + w } → Whole s₀ t e₀ r s'' e'
      behind n w s'' ev c e' k p r re =
          let z : taken + 1 ≡ suc taken = omega arith in
          let f : taken + suc n ≡ taken + 1 + n = omega arith in
          let i : written + suc w ≡ written + 1 + w = omega arith in
          let m : room - (written + 1) ≡ room - written - 1 = omega arith in
          let j : (written + 1) * event_length ≡ written * event_length + event_length = omega arith in
          h.whole (suc n) (suc w) s'' (event_of taken a ++ ev)
          (rw (next, ae) (comes_event s x (trace_records left) (room - written) taken n w s'' ev (rw ae at q) (omega (arith, h.free)) (rw (se, z, m) at c)))
          e' k (wrote_join (omega (arith, h.free, h.fits)) we (rw j at p)) r (rw (f, i) re)

      pub gather_full : written + 1 ≡ room → (r : Gathered) → r ≡ record { refusal = 0; taken = taken + 1; written = written + 1 } → Whole s₀ t e₀ r s' e₁
      gather_full le r re =
          let z : room - (written + 1) ≡ 0 = omega (arith, le) in
          let f : taken + 1 + 0 ≡ taken + 1 = omega arith in
          let i : written + 1 + 0 ≡ written + 1 = omega arith in
          behind 0 0 s' [] (rw z (comes_full s' (trace_records left) (taken + 1))) e₁ ((written + 1) * event_length)
          (wrote_none ((written + 1) * event_length) e₁) r (rw (f, i) re)

      pub gather_event : (written + 1 ≡ room → ⊥) → Gathering s₀ t e₀ s' e₁ left room (taken + 1) (written + 1)
      gather_event le =
          let w : length e₁ ≡ length e = event_length_lem taken a e e₁ (written * event_length) (omega (arith, h.free, h.fits)) we in
          record {
            long = sl ∙ h.long;
            wide = w ∙ h.wide;
            fits = omega (arith, w, h.fits);
            fewer = omega (arith, h.fewer, chunk_length g);
            free = omega (arith, h.free, le);
            whole = behind;
          }

-- ---- 9

pub gather_9 : (s t e : List ℕ) → gather_good s e ≡ false → (r : Gathered) → r ≡ record { refusal = lent_length; taken = 0; written = 0 } → Whole s t e r s e
unfolding gathered gather_session gather_events run_effect events_from
gather_9 s t e g r re = rw g (re, refl, (wrote_none 0 e).buffer)

pub bad_session : (s e : List ℕ) → (length s ≡ session_length → ⊥) → gather_good s e ≡ false
unfolding gather_good session_length_good
bad_session s e l = rw (ne_eqb (length s) session_length l)

pub bad_room : (s e : List ℕ) → length s ≡ session_length → length e < event_length → gather_good s e ≡ false
unfolding gather_good session_length_good
bad_room s e l m = rw (eq-eqb (length s) session_length l, refuted (leb event_length (length e)) (λ z. omega (arith, leb-true event_length (length e) z, m)))
