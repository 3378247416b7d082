-- A part of a trace listed record by record: what is written, and what is left of the part, is the whole of it.
use Prim.Native.Nat.{ℕ, ◌+◌, ◌-◌, ◌*◌, ◌/◌, ◌≤◌, ◌<◌, min}
use native.Mathlib.Omega.{arith}
use native.Mathlib.Nat.{zero-add}
use mathlib.Core.Path.{◌≡◌, refl, sym, ap, ap₂, ◌∙◌}
use mathlib.Core.Bool.{Bool, true, false, cond}
use mathlib.Core.List.{List, [], ◌∷◌, ◌++◌, append_assoc, append-nil}
use lib.Dec.{eqb}
use borrow.Author.Tests.{eq-eqb, ne_eqb}
use lib.ListN.{length, take, drop, length-append}
use Rattle.answers.specs.declared.Answer.{Answer}
use Rattle.answers.specs.declared.Tally.{Tally}
use Rattle.answers.specs.Tallies.{more, tallied_all}
use Rattle.fields.specs.Writing.{Wrote}
use Rattle.fields.proofs.WritingLaws.{wrote_none, wrote_join, wrote_length, wrote_as}
use Rattle.records.specs.declared.Request.{Request}
use Rattle.records.specs.Records.{record_length, request_in}
use Rattle.records.specs.Traces.{trace_records}
use Rattle.records.proofs.TraceRecords.{next_record, no_record}
use Rattle.monitor.specs.Steps.{step_answer, step_effect}
use Rattle.monitor.specs.Runs.{step_on, run_answers, run_effect}
use Rattle.monitor.specs.PartSessions.{part_tally, part_session}
use Rattle.listing.specs.Buffer.{line_limit, buffer_size}
use Rattle.answers.specs.Answers.{position_of}
use Rattle.monitor.proofs.AnswerPositions.{small}
use Rattle.listing.specs.Lines.{step_line, short_line}
use Rattle.listing.proofs.Pieces.{piece_front, piece_behind}
use Rattle.listing.proofs.Theorems.{step_fits, short_fits}
use Rattle.trace_listing.specs.declared.Listed.{Listed}
use Rattle.trace_listing.specs.Listings.{record_line, lines_of, part_text}
use Rattle.trace_listing.specs.PartListings.{part_limit, ListedRecord, ListedPart}

-- ---- the line of a record

module _ (step : ℕ) (bytes : List ℕ) (answer : Answer) where
  pub whole_line : (q : Request) {at next : ℕ} {before after : List ℕ} → length bytes ≡ record_length → q ≡ request_in bytes
      → Wrote (step_line step q.code q.p q.o answer) before after at next → Wrote (record_line step bytes answer) before after at next
  unfolding record_line
  whole_line q l e h = wrote_as (rw (eq-eqb (length bytes) record_length l, e)) h

  pub short_line_lem : {at next : ℕ} {before after : List ℕ} → (length bytes ≡ record_length → ⊥)
      → Wrote (short_line step) before after at next → Wrote (record_line step bytes answer) before after at next
  unfolding record_line
  short_line_lem l h = wrote_as (rw (ne_eqb (length bytes) record_length l)) h

  -- it has room where there is room for a line
  pub record_fits : position_of answer < 256 → length (record_line step bytes answer) ≤ line_limit
  unfolding record_line
  record_fits h = by (eqb (length bytes) record_length)
    where
      by : (b : Bool) → length (cond b (step_line step (request_in bytes).code (request_in bytes).p (request_in bytes).o answer) (short_line step)) ≤ line_limit
      by true = step_fits step (request_in bytes).code (request_in bytes).p (request_in bytes).o answer h
      by false = short_fits step

-- ---- the loop over the records of a part

-- the next piece of a trace is its next record, and the pieces behind it are the others
pieces_next : (r x q : List ℕ) → r ≡ x ++ q → length x ≡ min record_length (length r) → 0 < length r → trace_records r ≡ x ∷ trace_records q
pieces_next r x q e l h =
    next_record r 0 h
    ∙ ap₂ (λ (y z : List ℕ). y ∷ trace_records z) (piece_front record_length r x q e l)
    (ap (λ (n : ℕ). drop n r) (zero-add (length (take record_length r))) ∙ piece_behind record_length r x q e l)

-- how many records n bytes are
abbrev pub left : ℕ → ℕ
left n = (n + (record_length - 1)) / record_length

-- of the part, the records before `rest` are listed: `front` is their text, and there is room for the others
pub record Listing (part : List ℕ) (t₀ : Tally) (s₀ before s out : List ℕ) (run : Listed) (rest : List ℕ) : Type 0 where
  pub front : List ℕ
  pub session : length s ≡ length s₀
  pub long : length out ≡ buffer_size
  pub begun : length before ≡ buffer_size
  pub room : run.end + line_limit * left (length rest) ≤ buffer_size
  pub wrote : Wrote front before out 0 run.end
  pub text : front ++ lines_of run.tally (trace_records rest) (run_answers s (trace_records rest)) ≡ part_text t₀ s₀ part
  pub counts : tallied_all run.tally (run_answers s (trace_records rest)) ≡ part_tally t₀ s₀ part
  pub leaves : run_effect s (trace_records rest) ≡ part_session s₀ part

pub listing_start : (part : List ℕ) (t : Tally) (s out : List ℕ) (run : Listed) (rest : List ℕ) → length part ≤ part_limit → length out ≡ buffer_size → run.tally ≡ t → run.end ≡ 0
    → rest ≡ part → Listing part t s out s out run rest
unfolding part_text part_tally part_session
listing_start part t s out run rest l b e z r =
    record {
      front = [];
      session = refl;
      long = b;
      begun = b;
      room = omega (arith, ap length r);
      wrote = rw z (wrote_none 0 out);
      text = rw (e, r);
      counts = rw (e, r);
      leaves = rw r;
    }

module _ (part : List ℕ) (t₀ : Tally) (s₀ before s out : List ℕ) (run : Listed) (rest : List ℕ) (h : Listing part t₀ s₀ before s out run rest) (l : 0 < length rest) where
  -- there is room for a line
  pub line_room : run.end + line_limit ≤ length out
  line_room = omega (arith, h.room, h.long)

  module _ (x q s' out' : List ℕ) (a : Answer) (run' : Listed) (re : rest ≡ x ++ q) (xe : length x ≡ min record_length (length rest)) (ae : a ≡ step_answer s x) (se : s' ≡ step_effect s x)
      (w : ListedRecord x a run out out' run') where
    next_text : (h.front ++ record_line (more run.tally.records) x a) ++ lines_of run'.tally (trace_records q) (run_answers s' (trace_records q)) ≡ part_text t₀ s₀ part
    unfolding lines_of run_answers step_on
    next_text = rw (append_assoc h.front, w.counts, ae, se) (rw (pieces_next rest x q re xe l) at h.text)

    next_counts : tallied_all run'.tally (run_answers s' (trace_records q)) ≡ part_tally t₀ s₀ part
    unfolding tallied_all run_answers step_on
    next_counts = rw (w.counts, ae, se) (rw (pieces_next rest x q re xe l) at h.counts)

    next_leaves : run_effect s' (trace_records q) ≡ part_session s₀ part
    unfolding run_effect step_on
    next_leaves = rw se (rw (pieces_next rest x q re xe l) at h.leaves)

    fits : length (record_line (more run.tally.records) x a) ≤ line_limit
    fits = record_fits (more run.tally.records) x a (rw ae (small s x))

    next_room : run'.end + line_limit * left (length q) ≤ buffer_size
    next_room = omega (arith, h.room, w.line.ends, fits, ap length re, length-append x q, xe)

    pub listing_next : length s' ≡ length s → Listing part t₀ s₀ before s' out' run' q
    listing_next e =
        record {
          front = h.front ++ record_line (more run.tally.records) x a;
          session = e ∙ h.session;
          long = wrote_length (omega (arith, line_room, fits)) w.line ∙ h.long;
          begun = h.begun;
          room = next_room;
          wrote = wrote_join (omega arith) h.wrote w.line;
          text = next_text;
          counts = next_counts;
          leaves = next_leaves;
        }

pub listing_end : (part : List ℕ) (t₀ : Tally) (s₀ before s out : List ℕ) (run : Listed) (rest : List ℕ) → Listing part t₀ s₀ before s out run rest → length rest ≡ 0
    → ListedPart part t₀ s₀ s before out run
unfolding lines_of tallied_all run_answers run_effect
listing_end part t₀ s₀ before s out run rest h l =
    let none : trace_records rest ≡ [] = no_record rest 0 (omega (arith, l)) in
    record {
      lines = record { front = wrote_as (sym (append-nil h.front) ∙ rw none at h.text) h.wrote; room = omega (arith, h.room) };
      counts = rw none at h.counts;
      leaves = rw none at h.leaves;
    }
