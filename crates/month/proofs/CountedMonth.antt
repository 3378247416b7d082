-- A trace counted part by part, a month shown trace by trace.
use Prim.Native.Nat.{ℕ, suc, ◌+◌, ◌*◌, ◌%◌, ◌^◌, ◌≤◌, ◌<◌}
use native.Mathlib.Omega.{arith}
use mathlib.Core.Path.{◌≡◌, refl, sym, ap, ap₂, subst, ◌∙◌}
use mathlib.Core.Bool.{true, false}
use mathlib.Core.Logic.{inl, inr}
use mathlib.Core.List.{List, [], ◌∷◌, ◌++◌}
use lib.ListN.{length, take, length-append, length-take}
use lib.Seq.{take_all}
use borrow.Author.Tests.{eq-eqb}
use Rattle.std.specs.Prelude.{Result, Ok, Err}
use Rattle.fields.specs.Ascii.{ascii}
use Rattle.answers.specs.declared.Refusal.{Refusal}
use Rattle.answers.specs.Outcomes.{refusal_number, outcome_number}
use Rattle.answers.proofs.Outcomes.{accepted, refused_by, not_accepted}
use Rattle.records.specs.Records.{record_length}
use Rattle.records.specs.Traces.{trace_records}
use Rattle.monitor.specs.Runs.{run_answers, run_effect}
use Rattle.image.specs.Limits.{image_limit}
use Rattle.image.specs.Image.{check_of, policy_in}
use Rattle.session.specs.Limits.{session_length}
use Rattle.session.specs.Session.{start_of, start_effect}
use Rattle.session.proofs.Canonical.{started_effect}
use Rattle.listing.specs.Lines.{policy_line}
use Rattle.monitor.specs.PartSessions.{part_session}
use Rattle.monitor.proofs.TraceCuts.{session_cut}
use Rattle.figures.specs.Figures.{record_limit, no_figures, figures_of, too_many}
use Rattle.figures.specs.Lines.{name_of, trace_line, month_total_line}
use Rattle.figures.specs.Months.{trace_figures, trace_lines, total_figures, trace_limit, traces_text, month_text}
use Rattle.figures.specs.Counters.{Counters, counters, counters_of, counted_all, figures_in, no_counters, total_with, part_counters}
use Rattle.figures.proofs.MonthLaws.{part_cut, trace_counters, trace_line_lem, total_held, records_few}
use Rattle.figures.proofs.MonthReads.{lines_snoc, total_snoc, total_shown, records_counted, few_bytes}
use Rattle.figures.proofs.Theorems.{month_refused}
use Rattle.files.specs.declared.Part.{Part}
use Rattle.files.specs.Calls.{Handed, handed_none, handed_then, handed_as, Taken, taken_none, taken_then, FileLoaded, PartRead}
use Rattle.month.specs.Runs.{part_size, TraceRead, TracesRead, TraceCounted, TraceShown, TracesShown, MonthOf, MonthShown}

-- ---- a trace part by part

-- of a trace these whole records are read and counted, and they are not too many
pub record Counting (name s begun s' part : List ℕ) (c : ℕ) (counts alerted : List ℕ) (place : ℕ) : Type 0 where
  pub trace : List ℕ
  pub whole : length trace % record_length ≡ 0
  pub few : length trace ≤ record_length * record_limit
  pub long : length part ≡ part_size
  pub session : length s' ≡ length s
  pub wide : length alerted ≡ length begun
  pub taken : Taken name trace 0 place
  pub leaves : s' ≡ part_session s trace
  pub counted : counters c counts alerted ≡ part_counters no_counters s trace

pub counting_start : (name s part counts alerted : List ℕ) → counts ≡ no_counters.counts → alerted ≡ no_counters.alerted → length part ≡ part_size
    → Counting name s alerted s part 0 counts alerted 0
unfolding no_counters counters_of no_figures figures_of
counting_start name s part counts alerted e f l =
    record {
      trace = [];
      whole = refl;
      few = omega arith;
      long = l;
      session = refl;
      wide = refl;
      taken = taken_none name 0;
      leaves = unfold part_session run_effect trace_records Rattle.fields.specs.Bytes.cut in refl;
      counted = ap₂ (counters 0) e f ∙ no_count s;
    }
  where
    no_count : (s : List ℕ) → no_counters ≡ part_counters no_counters s []
    no_count s = unfold part_counters counted_all run_answers trace_records Rattle.fields.specs.Bytes.cut in refl

module _ (name s begun s₁ part₁ : List ℕ) (c₁ : ℕ) (counts₁ alerted₁ : List ℕ) (p₁ : ℕ) (h : Counting name s begun s₁ part₁ c₁ counts₁ alerted₁ p₁)
    (got : Part) (part₂ : List ℕ) (p₂ : ℕ) (r : PartRead name got part₂ p₁ p₂) (l : length part₂ ≡ length part₁)
    (c₂ : ℕ) (counts₂ alerted₂ s₂ : List ℕ)
    (e : (counters c₂ counts₂ alerted₂ ≡ part_counters (counters c₁ counts₁ alerted₁) s₁ (take got.size part₂)) × (s₂ ≡ part_session s₁ (take got.size part₂))) where
  now_read : List ℕ
  now_read = h.trace ++ take got.size part₂

  now_length : length (h.trace ++ take got.size part₂) ≤ record_length * record_limit + part_size
  now_length = omega (arith, h.few, length-append h.trace (take got.size part₂), length-take got.size part₂, l, h.long)

  now_leaves : s₂ ≡ part_session s (h.trace ++ take got.size part₂)
  now_leaves =
      e.1 ∙ ap (λ (z : List ℕ). part_session z (take got.size part₂)) h.leaves
      ∙ sym (session_cut s h.trace (take got.size part₂) h.whole)

  now_counts : counters c₂ counts₂ alerted₂ ≡ part_counters no_counters s (h.trace ++ take got.size part₂)
  now_counts =
      e.0 ∙ ap₂ (λ (k : Counters) (z : List ℕ). part_counters k z (take got.size part₂)) h.counted h.leaves
      ∙ sym (part_cut no_counters s h.trace (take got.size part₂) h.whole)

  now_records : c₂ ≡ (part_counters no_counters s (h.trace ++ take got.size part₂)).records
  now_records = ap (λ (k : Counters). k.records) now_counts

  -- a part that is not the last is full, and so of whole records
  now_whole : got.last ≡ false → length (h.trace ++ take got.size part₂) % record_length ≡ 0
  now_whole z = omega (arith, h.whole, length-append h.trace (take got.size part₂), length-take got.size part₂, r.full z, l, h.long)

  pub counted_all_lem : got.last ≡ true → TraceCounted name s (counters c₂ counts₂ alerted₂)
  counted_all_lem z =
      record {
        trace = h.trace ++ take got.size part₂;
        read = inl (record { end = p₂; taken = taken_then h.taken r.taken; ends = r.ends z });
        few = omega (arith, now_length);
        counts = now_counts ∙ trace_counters s (h.trace ++ take got.size part₂);
      }

  pub counted_front : got.last ≡ false → too_many c₂ ≡ true → TraceCounted name s (counters c₂ counts₂ alerted₂)
  counted_front z m =
      let b : length (h.trace ++ take got.size part₂) < 2 ^ 64 = omega (arith, now_length) in
      record {
        trace = h.trace ++ take got.size part₂;
        read =
            inr (
              record { end = p₂; taken = taken_then h.taken r.taken },
              now_whole z,
              sym (ap too_many (now_records ∙ records_counted s (h.trace ++ take got.size part₂) b)) ∙ m,
            );
        few = b;
        counts = now_counts ∙ trace_counters s (h.trace ++ take got.size part₂);
      }

  pub counting_next : got.last ≡ false → too_many c₂ ≡ false → length s₂ ≡ length s₁ → length alerted₂ ≡ length alerted₁
      → Counting name s begun s₂ part₂ c₂ counts₂ alerted₂ p₂
  counting_next z m k w =
      record {
        trace = h.trace ++ take got.size part₂;
        whole = now_whole z;
        few = few_bytes s (h.trace ++ take got.size part₂) (omega (arith, now_length)) (sym (ap too_many now_records) ∙ m);
        long = l ∙ h.long;
        session = k ∙ h.session;
        wide = w ∙ h.wide;
        taken = taken_then h.taken r.taken;
        leaves = now_leaves;
        counted = now_counts;
      }

-- ---- the line of a trace

pub trace_shown : (n : ℕ) (name policy lent s : List ℕ) (k t t' : Counters) (a b : ℕ) → check_of policy ≡ 0 → length lent ≡ session_length → s ≡ start_effect policy lent
    → TraceCounted name s k → Handed (trace_line n (figures_in k)) a b → t' ≡ total_with t k → TraceShown n name (start_of (policy_in policy)) t t' a b
trace_shown n name policy lent s k t t' a b z l e h w v =
    by (subst (λ (x : List ℕ). TraceCounted name x k) (e ∙ started_effect policy lent z l) h)
  where
    by : TraceCounted name (start_of (policy_in policy)) k → TraceShown n name (start_of (policy_in policy)) t t' a b
    by h =
        let s : List ℕ = start_of (policy_in policy) in
        let m : (trace_figures s h.trace).records < 2 ^ 64 = records_few s h.trace h.few in
        record {
          trace = h.trace;
          read = h.read;
          sums = λ f x. v ∙ ap₂ total_with x h.counts ∙ total_held f s h.trace m;
          handed = handed_as (ap (λ (x : Counters). trace_line n (figures_in x)) h.counts ∙ trace_line_lem n s h.trace m) w;
        }

-- ---- the traces

-- so many traces are shown
pub record Showing (s : List ℕ) (total : Counters) (n a b : ℕ) : Type 0 where
  pub traces : List (List ℕ)
  pub count : length traces ≡ n
  pub limit : n ≤ trace_limit
  pub read : TracesRead s 0 traces
  pub sums : total ≡ counters_of (total_figures s traces)
  pub handed : Handed (trace_lines 0 s traces) a b

pub showing_start : (s totals sums : List ℕ) (a : ℕ) → totals ≡ no_counters.counts → sums ≡ no_counters.alerted → Showing s (counters 0 totals sums) 0 a a
unfolding total_figures trace_lines no_counters counters_of no_figures figures_of
showing_start s totals sums a e f =
    record { traces = []; count = refl; limit = omega arith; read = tt; sums = ap₂ (counters 0) e f; handed = handed_none a }

reads_snoc : (s : List ℕ) (n : ℕ) (ts : List (List ℕ)) (t : List ℕ) → TracesRead s n ts → TraceRead s (name_of (n + length ts)) t → TracesRead s n (ts ++ (t ∷ []))
reads_snoc s n [] t h r =
    let e : n + 0 ≡ n = omega arith in
    (subst (λ (k : ℕ). TraceRead s (name_of k) t) e r, tt)
reads_snoc s n (x ∷ ts) t h r =
    let e : n + suc (length ts) ≡ suc n + length ts = omega arith in
    (h.0, reads_snoc s (suc n) ts t h.1 (subst (λ (k : ℕ). TraceRead s (name_of k) t) e r))

module _ (s : List ℕ) (total : Counters) (n a b : ℕ) (h : Showing s total n a b) where
  pub showing_next : {name : List ℕ} (total' : Counters) (d : ℕ) → n < trace_limit → name ≡ name_of n → TraceShown n name s total total' b d → Showing s total' (n + 1) a d
  showing_next total' d l m v =
      let z : n ≡ 0 + length h.traces = omega (arith, h.count) in
      record {
        traces = h.traces ++ (v.trace ∷ []);
        count = length-append h.traces (v.trace ∷ []) ∙ ap (λ (k : ℕ). k + 1) h.count;
        limit = omega arith;
        read = reads_snoc s 0 h.traces v.trace h.read (subst (λ (x : List ℕ). TraceRead s x v.trace) (m ∙ ap name_of z) v.read);
        sums = v.sums (total_figures s h.traces) h.sums ∙ ap counters_of (sym (total_snoc s h.traces v.trace));
        handed =
            handed_as (sym (lines_snoc 0 s h.traces v.trace))
            (handed_then h.handed (handed_as (ap (λ (k : ℕ). trace_line k (trace_figures s v.trace)) z) v.handed));
      }

-- ---- the month

pub month_of : (s : List ℕ) (k : Counters) (a b d : ℕ) → TracesShown s k a b → Handed (month_total_line (figures_in k)) b d → MonthOf s a d
unfolding traces_text
month_of s k a b d h w =
    record {
      traces = h.traces;
      read = h.read;
      complete = h.complete;
      handed =
          handed_then h.handed
          (handed_as (ap (λ (x : Counters). month_total_line (figures_in x)) h.sums ∙ total_shown s h.traces h.complete.0) w);
    }

module _ {name : List ℕ} {room : ℕ} (policy : List ℕ) (n : name ≡ ascii "policy.bin") (k : room ≡ image_limit + 1) (f : FileLoaded name policy room)
    (checked : Result (Unit {0}) Refusal) (r : outcome_number checked ≡ check_of policy) where
  read_policy : FileLoaded (ascii "policy.bin") policy (image_limit + 1)
  read_policy = subst (λ (x : List ℕ). FileLoaded x policy (image_limit + 1)) n (subst (λ (x : ℕ). FileLoaded name policy x) k f)

  pub shown_refused : (refusal : Refusal) → checked ≡ Err refusal → (a b : ℕ) → Handed (policy_line (refusal_number refusal)) a b → MonthShown a b
  shown_refused refusal w a b h =
      let d : check_of policy ≡ 0 → ⊥ = not_accepted r w in
      record {
        policy = policy;
        traces = [];
        policy_file = read_policy;
        read = λ e. absurd (d e);
        complete = λ e. absurd (d e);
        handed = handed_as (ap policy_line (sym (refused_by r w)) ∙ sym (month_refused policy [] d)) h;
      }

  pub shown_month : (u : Unit {0}) → checked ≡ Ok u → (a b : ℕ) → MonthOf (start_of (policy_in policy)) a b → MonthShown a b
  unfolding month_text
  shown_month u w a b h =
      let good : check_of policy ≡ 0 = accepted r w in
      record {
        policy = policy;
        traces = h.traces;
        policy_file = read_policy;
        read = λ _. h.read;
        complete = λ _. h.complete;
        handed = handed_as (sym (rw (eq-eqb (check_of policy) 0 good, take_all trace_limit h.traces h.complete.0))) h.handed;
      }
