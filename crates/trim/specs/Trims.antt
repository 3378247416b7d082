-- A trace trimmed to its alert (change request No. 13): when a cut counts, what is kept, the answer and every byte of the output.
use Rattle.std.specs.Prelude.{ℕ, ◌-◌, ◌*◌, Result, Ok, Err, Bool, cond, ◌&&◌, List, [], ◌∷◌, ◌++◌, map, leb, eqb, length, take, drop}
use Rattle.lists.specs.Lists.{every}
use Rattle.lists.specs.Counting.{count_from}
use Rattle.lists.specs.Conditions.{Condition, ◌or_refuse◌, first_failed}
use Rattle.answers.specs.Refusals.{lent_length, trim_trace}
use Rattle.answers.specs.declared.Refusal.{Refusal}
use Rattle.answers.specs.Outcomes.{refusal_number}
use Rattle.answers.specs.Answers.{accepted, is_alert}
use Rattle.fields.specs.Writing.{overwritten}
use Rattle.image.specs.Image.{policy_in, image_conditions}
use Rattle.session.specs.Session.{start_of}
use Rattle.records.specs.Records.{record_length}
use Rattle.records.specs.Traces.{trace_records}
use Rattle.monitor.specs.Steps.{step_answer}
use Rattle.monitor.specs.Runs.{run_answers, run_effect}
use Rattle.trim.specs.Cuts.{trim_in}

-- "up to 256 records", hence as many positions
abbrev pub trim_limit : ℕ
trim_limit = 256

-- ---- cuts

-- the record at a position, "counted from 0 in the given trace"; Theorems, `positions_records`, says that these are the trace's records
unfoldable pub record_at : List ℕ → ℕ → List ℕ
record_at t k = take record_length (drop (k * record_length) t)

unfoldable pub records_at : List ℕ → List ℕ → List (List ℕ)
records_at t ks = map (record_at t) ks

-- "a cut counts only if all its records are accepted and its last still alerts", from the session s: ks are the positions in front of the
-- last one, and an alert is accepted
unfoldable pub cut_counts : List ℕ → List ℕ → ℕ → List ℕ → Bool
cut_counts s t last ks =
    every accepted (run_answers s (records_at t ks)) && is_alert (step_answer (run_effect s (records_at t ks)) (record_at t last))

-- ---- what is kept

-- the position of the last record, and those in front of it
unfoldable pub last_of : List ℕ → ℕ
last_of t = length (trace_records t) - 1

unfoldable pub front_of : List ℕ → List ℕ
front_of t = count_from 0 (last_of t)

-- those of them that the passes leave
unfoldable pub kept_front : List ℕ → List ℕ → List ℕ
kept_front s t = trim_in (cut_counts s t (last_of t)) (last_of t) (front_of t)

-- "drop records, never the last": the kept positions
unfoldable pub kept_of : List ℕ → List ℕ → List ℕ
kept_of s t = kept_front s t ++ (last_of t ∷ [])

-- ---- the answer

-- 22 unless: not "empty", not "too long", without "a refused or blocked record", ending "in an alert"
unfoldable pub trace_good : List ℕ → List ℕ → Bool
trace_good s t =
    leb 1 (length (trace_records t)) && (leb (length (trace_records t)) trim_limit && cut_counts s t (last_of t) (front_of t))

-- 9 where the output has no room for 256 positions, then "the policy's own refusals", then 22. "It runs on a session of its own": the
-- one that the image starts
unfoldable pub trim_conditions : List ℕ → List ℕ → List ℕ → List Condition
trim_conditions i t out =
    (leb trim_limit (length out) or_refuse lent_length)
    ∷ (image_conditions i ++ ((trace_good (start_of (policy_in i)) t or_refuse trim_trace) ∷ []))

-- the refusal, 0 if there is none
unfoldable pub trim_refusal : List ℕ → List ℕ → List ℕ → ℕ
trim_refusal i t out = first_failed (trim_conditions i t out)

-- the kept positions of a trace on the session that the image starts
unfoldable pub positions_of : List ℕ → List ℕ → List ℕ
positions_of i t = kept_of (start_of (policy_in i)) t

-- the refusal, or 0 and how many are kept
pub record Trimmed : Type 0 where
  pub refusal : ℕ
  pub kept : ℕ

-- the same of the function's outcome
abbrev pub trimmed_of : Result ℕ Refusal → Trimmed
trimmed_of (Ok n) = record { refusal = 0; kept = n }
trimmed_of (Err r) = record { refusal = refusal_number r; kept = 0 }

unfoldable pub trim_answer : List ℕ → List ℕ → List ℕ → Trimmed
trim_answer i t out =
    cond (eqb (trim_refusal i t out) 0)
    (record { refusal = 0; kept = length (positions_of i t) })
    (record { refusal = trim_refusal i t out; kept = 0 })

-- the output: a byte for each at its front; those behind stay, and "A refusal .. changes no lent memory"
unfoldable pub trim_effect : List ℕ → List ℕ → List ℕ → List ℕ
trim_effect i t out = cond (eqb (trim_refusal i t out) 0) (overwritten (positions_of i t) 0 out) out
