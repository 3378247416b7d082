-- A TRACE TRIMMED TO ITS ALERT (change request No. 13): what is proved of it, stated in full and proved by citation. The definitions are
-- in specs/ of this crate and of crates monitor (the step, runs) and chains (histories, what is forbidden).
use Prim.Native.Nat.{ℕ, ◌-◌, ◌%◌, ◌≤◌, ◌<◌}
use native.Mathlib.Omega.{arith}
use mathlib.Core.Path.{◌≡◌}
use mathlib.Core.Logic.{◌⊎◌, ◌↔◌, ◌≢◌}
use mathlib.Core.Bool.{Bool, true, false}
use mathlib.Core.List.{List, [], ◌∷◌, ◌++◌}
use lib.Dec.{leb, ltb}
use lib.ListN.{length, take, drop}
use Rattle.lists.specs.Lists.{every, elem}
use Rattle.lists.specs.Conditions.{numbers_of, number_at}
use Rattle.lists.proofs.Conditions.{given_exactly, given_among}
use Rattle.answers.specs.Refusals.{image_length, sections, record_count, rule_record, container_record, user_rule, lent_length, trim_trace}
use Rattle.answers.specs.Answers.{accepted, is_alert}
use Rattle.fields.specs.Bytes.{Bytes}
use Rattle.image.specs.Image.{image_conditions, check_of, policy_in}
use Rattle.session.specs.Session.{start_of}
use Rattle.chains.specs.History.{receiver}
use Rattle.chains.specs.Chains.{Forbidden}
use Rattle.records.specs.Records.{record_length}
use Rattle.records.specs.Traces.{trace_records}
use Rattle.monitor.specs.Steps.{step_asked, step_answer}
use Rattle.monitor.specs.Runs.{run_answers, run_effect, history_in}
use Rattle.trim.specs.Cuts.{pass, trim_in, Minimal}
use Rattle.trim.specs.Trims.{trim_limit, record_at, records_at, cut_counts, last_of, front_of, kept_front, kept_of, trace_good, trim_conditions, trim_refusal, positions_of, trim_answer, trim_effect}
use Rattle.trim.proofs.MinimalTraces as cuts
use Rattle.trim.proofs.KeptFacts as facts

-- ---- the passes, whatever the test of a cut

-- "until one drops nothing": with a pass for each position there always is one, so a further pass changes nothing
pub passes_end : (counts : List ℕ → Bool) (n : ℕ) (ks : List ℕ) → length ks ≤ n → pass counts (trim_in counts n ks) ≡ trim_in counts n ks
passes_end = cuts.trim_fixed

-- nor do more of them
pub passes_enough : (counts : List ℕ → Bool) (n m : ℕ) (ks : List ℕ) → length ks ≤ n → trim_in counts m (trim_in counts n ks) ≡ trim_in counts n ks
passes_enough = cuts.trim_enough

-- "until no single further one can go"
pub passes_minimal : (counts : List ℕ → Bool) (n : ℕ) (ks : List ℕ) → length ks ≤ n → Minimal counts (trim_in counts n ks)
passes_minimal = cuts.trim_minimal

-- ---- the kept positions of a trace that is not refused by 22, on the session s

-- the records at all positions are the records of the trace
pub positions_records : (t : List ℕ) → 1 ≤ length (trace_records t) → records_at t (front_of t ++ (last_of t ∷ [])) ≡ trace_records t
positions_records = facts.all_records

module _ (s t : List ℕ) (g : trace_good s t ≡ true) where
  -- they rise
  pub kept_rising : (xs : List ℕ) (a b : ℕ) (ys : List ℕ) → xs ++ (a ∷ b ∷ ys) ≡ kept_of s t → a < b
  kept_rising = facts.rising s t

  -- lie in the trace
  pub kept_below : every (λ k. ltb k (length (trace_records t))) (kept_of s t) ≡ true
  kept_below = facts.below s t g

  -- and end with the last
  pub kept_last : kept_of s t ≡ kept_front s t ++ ((length (trace_records t) - 1) ∷ [])
  kept_last = facts.ends s t

  -- each kept record is accepted
  pub kept_accepted : every accepted (run_answers s (records_at t (kept_of s t))) ≡ true
  kept_accepted = facts.accepted_all s t g

  -- and the last raises an alert
  pub kept_alerts : is_alert (step_answer (run_effect s (records_at t (kept_front s t))) (record_at t (last_of t))) ≡ true
  kept_alerts = facts.alerts s t g

  -- Leaving out any single kept position but the last, some record is not accepted or the last raises no alert.
  pub kept_minimal : (xs : List ℕ) (k : ℕ) (ys : List ℕ) → xs ++ (k ∷ ys) ≡ kept_front s t
      → (every accepted (run_answers s (records_at t (xs ++ ys))) ≡ false)
      ⊎ (is_alert (step_answer (run_effect s (records_at t (xs ++ ys))) (record_at t (last_of t))) ≡ false)
  kept_minimal = facts.minimal s t

  -- A further pass changes nothing.
  pub kept_fixed : pass (cut_counts s t (last_of t)) (kept_front s t) ≡ kept_front s t
  kept_fixed = facts.fixed s t

-- ---- demand 3 of the cut: its last record is forbidden in the history of the cut

pub kept_forbidden : (image t : List ℕ) → Bytes image → check_of image ≡ 0 → trace_good (start_of (policy_in image)) t ≡ true
    → Forbidden (policy_in image) (history_in (records_at t (positions_of image t)) (run_answers (start_of (policy_in image)) (records_at t (positions_of image t))))
    (receiver (step_asked (record_at t (last_of t))))
kept_forbidden = facts.forbidden

-- ---- each refusal has its condition, and is given only under it

module _ (i t out : List ℕ) where
  pub refused_9 : (trim_refusal i t out ≡ lent_length) ↔ (leb trim_limit (length out) ≡ false)
  unfolding trim_refusal trim_conditions image_conditions number_at numbers_of
  refused_9 = given_exactly (trim_conditions i t out) (facts.numbers i t out) 0 (omega arith)

  -- 1 to 6 exactly where the output has its length and the image is refused so
  pub refused_image : (n : ℕ) → n ≢ 0 → n ≢ lent_length → n ≢ trim_trace → (trim_refusal i t out ≡ n) ↔ ((leb trim_limit (length out) ≡ true) × (check_of i ≡ n))
  refused_image = facts.image_refused i t out

  -- 22 exactly where nothing else is refused, and the trace is empty, too long, has a record that is not accepted, or does not end in an alert
  pub refused_22 : (trim_refusal i t out ≡ trim_trace)
      ↔ ((leb trim_limit (length out) ≡ true) × (check_of i ≡ 0) × (trace_good (start_of (policy_in i)) t ≡ false))
  refused_22 = facts.trace_refused i t out

  pub accepted_exactly : (trim_refusal i t out ≡ 0)
      ↔ ((leb trim_limit (length out) ≡ true) × (check_of i ≡ 0) × (trace_good (start_of (policy_in i)) t ≡ true))
  accepted_exactly = facts.none_refused i t out

  -- no other number is given
  pub refusals_among : elem (trim_refusal i t out) (0 ∷ lent_length ∷ image_length ∷ sections ∷ record_count ∷ rule_record ∷ container_record ∷ user_rule ∷ trim_trace ∷ []) ≡ true
  unfolding trim_refusal trim_conditions image_conditions numbers_of
  refusals_among = given_among (trim_conditions i t out)

  -- what is answered and left where nothing is refused
  pub trim_given : trim_refusal i t out ≡ 0
      → ((trim_answer i t out).refusal ≡ 0) × ((trim_answer i t out).kept ≡ length (positions_of i t)) × (take (length (positions_of i t)) (trim_effect i t out) ≡ positions_of i t)
      × (drop (length (positions_of i t)) (trim_effect i t out) ≡ drop (length (positions_of i t)) out)
  trim_given = facts.given i t out

  -- and where something is: nothing is kept, and the output is as it was
  pub trim_refused : trim_refusal i t out ≢ 0 → ((trim_answer i t out).refusal ≡ trim_refusal i t out) × ((trim_answer i t out).kept ≡ 0) × (trim_effect i t out ≡ out)
  trim_refused = facts.refused i t out

-- "the trace is empty, too long, has a refused or blocked record or does not end in an alert": the trace is good exactly if none holds
pub trace_good_lem : (s t : List ℕ) → (trace_good s t ≡ true)
    ↔ ((1 ≤ length (trace_records t)) × (length (trace_records t) ≤ trim_limit) × (every accepted (run_answers s (trace_records t)) ≡ true)
    × (is_alert (step_answer (run_effect s (records_at t (front_of t))) (record_at t (last_of t))) ≡ true))
trace_good_lem = facts.good_exactly

-- a trace whose last record is short is refused by 22
pub short_refused : (s t : List ℕ) → (length t % record_length ≡ 0 → ⊥) → trace_good s t ≡ false
short_refused = facts.short
