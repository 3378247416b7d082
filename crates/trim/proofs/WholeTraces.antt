-- Traces of whole records, and those that 22 refuses for their length or their last record.
use Prim.Native.Nat.{ℕ, zero, suc, ◌+◌, ◌-◌, ◌*◌, ◌/◌, ◌%◌, ◌≤◌, ◌<◌}
use native.Mathlib.Omega.{arith}
use mathlib.Core.Path.{◌≡◌, sym, ap, ◌∙◌}
use mathlib.Core.Logic.{⊎_elim}
use mathlib.Core.Bool.{Bool, true, false, not, ◌&&◌}
use mathlib.Core.List.{List}
use lib.Dec.{leb, eqb}
use lib.ListN.{length, take, drop, length-take, length-drop}
use borrow.Author.Tests.{leb-true, le-leb, eqb-true, eqb-false, ne_eqb, not-true}
use Rattle.lists.specs.Lists.{every}
use Rattle.lists.specs.Counting.{count_from}
use Rattle.lists.proofs.Bools.{and_in, and_0, and_1, clash, refuted, decide}
use Rattle.lists.proofs.Every.{every_nil, every_cons}
use Rattle.lists.proofs.Conditions.{zero_or_not}
use Rattle.answers.specs.Answers.{accepted, is_alert}
use Rattle.fields.proofs.SectionRecords.{cut_count}
use Rattle.records.specs.Records.{record_length, record_good}
use Rattle.records.specs.Traces.{trace_records}
use Rattle.records.proofs.Theorems.{record_good_lem}
use Rattle.monitor.specs.Steps.{refusal_of, step_answer}
use Rattle.monitor.specs.Runs.{run_answers, run_effect}
use Rattle.monitor.proofs.StepLaws.{refused_answer, step_record}
use Rattle.trim.specs.Trims.{trim_limit, record_at, records_at, cut_counts, last_of, front_of, trace_good}
use Rattle.trim.specs.Replays.{in_trace, whole_trace}

-- ---- how many records a trace has

pub records_count : (t : List ℕ) → length (trace_records t) ≡ (length t + (record_length - 1)) / record_length
unfolding trace_records
records_count t = cut_count record_length ((length t + (record_length - 1)) / record_length) t

-- ---- the positions in front of the last lie in the trace

pub every_between : (f : ℕ → Bool) (k n : ℕ) → ((b : ℕ) → k ≤ b → b < k + n → f b ≡ true) → every f (count_from k n) ≡ true
unfolding count_from
every_between f k zero h = every_nil f
every_between f k (suc n) h = every_cons f k (count_from (suc k) n) (h k (omega arith) (omega arith)) (every_between f (suc k) n (λ b l m. h b (omega arith) (omega arith)))

pub front_fits : (t : List ℕ) (last : ℕ) → last ≡ last_of t → in_trace t last ≡ true → every (in_trace t) (front_of t) ≡ true
unfolding front_of in_trace
front_fits t last e h =
    every_between (in_trace t) 0 (last_of t) (λ b k l. le-leb (b * record_length + record_length) (length t) (omega (arith, leb-true (last * record_length + record_length) (length t) h, e)))

-- ---- whole records

pub record Whole (t : List ℕ) : Type 0 where
  pub even : length t % record_length ≡ 0
  pub some : 1 ≤ length t / record_length
  pub few : length t / record_length ≤ trim_limit
  pub count : length (trace_records t) ≡ length t / record_length
  pub ends : length t / record_length - 1 ≡ last_of t
  pub last_fits : in_trace t (length t / record_length - 1) ≡ true

pub whole_is : (t : List ℕ) → whole_trace t ≡ true → Whole t
unfolding whole_trace last_of in_trace
whole_is t h =
    let a : length t % record_length ≡ 0 = eqb-true (length t % record_length) 0 (and_0 (eqb (length t % record_length) 0) (not (eqb (length t) 0) && leb (length t) (trim_limit * record_length)) h) in
    let r : (not (eqb (length t) 0) && leb (length t) (trim_limit * record_length)) ≡ true = and_1 (eqb (length t % record_length) 0) h in
    let b : length t ≡ 0 → ⊥ = eqb-false (length t) 0 (not-true (eqb (length t) 0) (and_0 (not (eqb (length t) 0)) (leb (length t) (trim_limit * record_length)) r)) in
    let c : length t ≤ trim_limit * record_length = leb-true (length t) (trim_limit * record_length) (and_1 (not (eqb (length t) 0)) r) in
    let k : length t / record_length ≡ 0 → ⊥ = λ z. b (omega (arith, z, a)) in
    let n : length (trace_records t) ≡ length t / record_length = records_count t ∙ omega (arith, a) in
    record {
      even = a;
      some = omega (arith, k);
      few = omega (arith, c);
      count = n;
      ends = ap (λ (x : ℕ). x - 1) (sym n);
      last_fits = le-leb ((length t / record_length - 1) * record_length + record_length) (length t) (omega (arith, a, k));
    }

pub whole_good_lem : (s t : List ℕ) → whole_trace t ≡ true → trace_good s t ≡ cut_counts s t (last_of t) (front_of t)
unfolding trace_good
whole_good_lem s t h =
    let w = whole_is t h in
    let a : leb 1 (length (trace_records t)) ≡ true = le-leb 1 (length (trace_records t)) (omega (arith, w.some, w.count)) in
    let b : leb (length (trace_records t)) trim_limit ≡ true = le-leb (length (trace_records t)) trim_limit (omega (arith, w.few, w.count)) in
    rw (a, b)

-- ---- a short last record is refused by 7, and raises no alert

bad_no_alert : (s r : List ℕ) → record_good r ≡ false → is_alert (step_answer s r) ≡ false
bad_no_alert s r h = ⊎_elim (λ e. clash (step_record s r e) h) (λ n. ap is_alert (refused_answer s r n)) (zero_or_not (refusal_of s r))

short_bad : (t : List ℕ) → (length t % record_length ≡ 0 → ⊥) → record_good (record_at t (last_of t)) ≡ false
unfolding record_at last_of
short_bad t h =
    refuted (record_good (take record_length (drop ((length (trace_records t) - 1) * record_length) t)))
    (λ g. let n : ℕ = length (trace_records t) - 1 in
    omega (
      arith,
      h,
      ((record_good_lem (take record_length (drop (n * record_length) t))).0 g).0,
      length-take record_length (drop (n * record_length) t),
      length-drop (n * record_length) t,
      records_count t,
    ))

pub short_counts : (s t : List ℕ) → (length t % record_length ≡ 0 → ⊥) → cut_counts s t (last_of t) (front_of t) ≡ false
unfolding cut_counts
short_counts s t h =
    refuted (every accepted (run_answers s (records_at t (front_of t))) && is_alert (step_answer (run_effect s (records_at t (front_of t))) (record_at t (last_of t))))
    (λ e. clash (and_1 (every accepted (run_answers s (records_at t (front_of t)))) e) (bad_no_alert (run_effect s (records_at t (front_of t))) (record_at t (last_of t)) (short_bad t h)))

pub whole_given : (s t : List ℕ) → trace_good s t ≡ true → whole_trace t ≡ true
unfolding trace_good whole_trace
whole_given s t h =
    let n : ℕ = length (trace_records t) in
    let r : (leb n trim_limit && cut_counts s t (last_of t) (front_of t)) ≡ true = and_1 (leb 1 n) h in
    let a : 1 ≤ n = leb-true 1 n (and_0 (leb 1 n) (leb n trim_limit && cut_counts s t (last_of t) (front_of t)) h) in
    let b : n ≤ trim_limit = leb-true n trim_limit (and_0 (leb n trim_limit) (cut_counts s t (last_of t) (front_of t)) r) in
    let c : cut_counts s t (last_of t) (front_of t) ≡ true = and_1 (leb n trim_limit) r in
    let e : eqb (length t % record_length) 0 ≡ true = ⊎_elim (λ x. x) (λ x. clash c (short_counts s t (eqb-false (length t % record_length) 0 x))) (decide (eqb (length t % record_length) 0)) in
    let z : eqb (length t) 0 ≡ false = ne_eqb (length t) 0 (λ x. omega (arith, x, a, records_count t)) in
    let f : not (eqb (length t) 0) ≡ true = rw z in
    and_in e (and_in f (le-leb (length t) (trim_limit * record_length) (omega (arith, b, records_count t, eqb-true (length t % record_length) 0 e))))

pub part_refused : (s t : List ℕ) → whole_trace t ≡ false → trace_good s t ≡ false
part_refused s t h = refuted (trace_good s t) (λ g. clash (whole_given s t g) h)
