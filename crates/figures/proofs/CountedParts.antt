-- A part of a trace counted record by record: what is counted, and what is left of the part, is the whole of it. Numbers changed one
-- after the other.
use Rattle.std.proofs.Common.{◌≡◌, ℕ, ◌+◌, ◌<◌, ◌≤◌, min, Bool, true, false, cond, List, ◌∷◌, ◌++◌, [], length, get_or, take, drop, set, sym, refl, ap, ap₂, ◌∙◌, subst, arith, zero-add}
use Rattle.std.proofs.Common.{length-set, get_or-set_other, get_or-set_same}
use native.Mathlib.Decide.{ℕ_discrete}
use lib.Seq.{set-get_or}
use Rattle.answers.specs.declared.Answer.{Answer}
use Rattle.records.specs.Records.{record_length}
use Rattle.records.specs.Traces.{trace_records}
use Rattle.records.proofs.TraceRecords.{next_record, no_record}
use Rattle.monitor.specs.Steps.{step_answer, step_effect}
use Rattle.monitor.specs.Runs.{step_on, run_answers, run_effect}
use Rattle.monitor.specs.PartSessions.{part_session}
use Rattle.listing.proofs.Pieces.{piece_front, piece_behind}
use Rattle.figures.specs.Figures.{count_limit, test_at}
use Rattle.figures.specs.Counters.{Counters, values_below, one_more, one_added, counted, counted_all, part_counters}
use Rattle.figures.proofs.CounterLaws.{values_list}

-- ---- the loop over the records of a part

-- the next piece of a trace is its next record, and the pieces behind it are the others
pieces_next : (r x q : List ℕ) → r ≡ x ++ q → length x ≡ min record_length (length r) → 0 < length r → trace_records r ≡ x ∷ trace_records q
pieces_next r x q e l h =
    next_record r 0 h
    ∙ ap₂ (λ (y z : List ℕ). y ∷ trace_records z) (piece_front record_length r x q e l)
    (ap (λ (n : ℕ). drop n r) (zero-add (length (take record_length r))) ∙ piece_behind record_length r x q e l)

-- of the part, the records before `rest` are counted
pub record Counting (part : List ℕ) (k₀ : Counters) (s₀ s : List ℕ) (k : Counters) (rest : List ℕ) : Type 0 where
  pub session : length s ≡ length s₀
  pub alerted : length k.alerted ≡ length k₀.alerted
  pub counts : counted_all k (run_answers s (trace_records rest)) ≡ part_counters k₀ s₀ part
  pub leaves : run_effect s (trace_records rest) ≡ part_session s₀ part

pub counting_start : (part : List ℕ) (k : Counters) (s rest : List ℕ) → rest ≡ part → Counting part k s s k rest
unfolding part_counters part_session
counting_start part k s rest e = record { session = refl; alerted = refl; counts = rw e; leaves = rw e }

module _ (part : List ℕ) (k₀ : Counters) (s₀ s : List ℕ) (k : Counters) (rest : List ℕ) (h : Counting part k₀ s₀ s k rest) (l : 0 < length rest)
    (x q s' : List ℕ) (a : Answer) (k' : Counters) (re : rest ≡ x ++ q) (xe : length x ≡ min record_length (length rest)) (ae : a ≡ step_answer s x) (se : s' ≡ step_effect s x)
    (ke : k' ≡ counted k a) where
  next_counts : counted_all k' (run_answers s' (trace_records q)) ≡ part_counters k₀ s₀ part
  unfolding counted_all run_answers step_on
  next_counts = rw (ke, ae, se) (rw (pieces_next rest x q re xe l) at h.counts)

  next_leaves : run_effect s' (trace_records q) ≡ part_session s₀ part
  unfolding run_effect step_on
  next_leaves = rw se (rw (pieces_next rest x q re xe l) at h.leaves)

  pub counting_next : length s' ≡ length s → length k'.alerted ≡ length k.alerted → Counting part k₀ s₀ s' k' q
  counting_next e p = record { session = e ∙ h.session; alerted = p ∙ h.alerted; counts = next_counts; leaves = next_leaves }

pub counting_end : (part : List ℕ) (k₀ : Counters) (s₀ s : List ℕ) (k : Counters) (rest : List ℕ) → Counting part k₀ s₀ s k rest → length rest ≡ 0
    → (k ≡ part_counters k₀ s₀ part) × (s ≡ part_session s₀ part)
unfolding counted_all run_answers run_effect
counting_end part k₀ s₀ s k rest h l =
    let none : trace_records rest ≡ [] = no_record rest 0 (omega (arith, l)) in
    (rw none at h.counts, rw none at h.leaves)

-- ---- the loop over numbers

-- the numbers below k are changed, each by its own rule, the others are as they were
pub record Changing (change : ℕ → ℕ → ℕ) (n : ℕ) (before now : List ℕ) (k : ℕ) : Type 0 where
  pub within : k ≤ n
  pub long : length now ≡ n
  pub done : (i : ℕ) → i < k → get_or now i 0 ≡ change i (get_or before i 0)
  pub rest : (i : ℕ) → k ≤ i → get_or now i 0 ≡ get_or before i 0

pub changing_start : (change : ℕ → ℕ → ℕ) (n : ℕ) (before : List ℕ) → length before ≡ n → Changing change n before before 0
changing_start change n before l = record { within = omega arith; long = l; done = λ i b. absurd (omega arith); rest = λ i b. refl }

pub changing_next : (change : ℕ → ℕ → ℕ) (n : ℕ) (before now : List ℕ) (k v : ℕ) → Changing change n before now k → k < n → v ≡ change k (get_or now k 0)
    → Changing change n before (set now k v) (k + 1)
changing_next change n before now k v h l e =
    record {
      within = omega arith;
      long = length-set now k v ∙ h.long;
      done = λ i b. by i b (ℕ_discrete i k);
      rest = λ i b. get_or-set_other now k i v 0 (λ z. absurd (omega arith)) ∙ h.rest i (omega arith);
    }
  where
    by : (i : ℕ) → i < k + 1 → Dec (i ≡ k) → get_or (set now k v) i 0 ≡ change i (get_or before i 0)
    by i b (yes z) = rw z (get_or-set_same now k v 0 (omega (arith, h.long)) ∙ e ∙ ap (change k) (h.rest k (omega arith)))
    by i b (no z) = get_or-set_other now k i v 0 z ∙ h.done i (omega arith)

-- the counts, by the tests of an answer
pub counts_next : (a : Answer) (before now after : List ℕ) (k : ℕ) → Changing (λ i n. cond (test_at i a) (one_more n) n) count_limit before now k → k < count_limit
    → after ≡ cond (test_at k a) (one_added now k) now → Changing (λ i n. cond (test_at i a) (one_more n) n) count_limit before after (k + 1)
counts_next a before now after k h l e =
    subst (λ (x : List ℕ). Changing (λ i n. cond (test_at i a) (one_more n) n) count_limit before x (k + 1)) (sym (e ∙ by (test_at k a)))
    (changing_next (λ i n. cond (test_at i a) (one_more n) n) count_limit before now k _ h l refl)
  where
    by : (b : Bool) → cond b (one_added now k) now ≡ set now k (cond b (one_more (get_or now k 0)) (get_or now k 0))
    by true = unfold one_added in refl
    by false = sym (set-get_or now k 0)

pub changing_end : (change : ℕ → ℕ → ℕ) (n : ℕ) (before now : List ℕ) (k : ℕ) → Changing change n before now k → n ≤ k
    → now ≡ values_below (λ i. change i (get_or before i 0)) n
changing_end change n before now k h l = values_list (λ i. change i (get_or before i 0)) n now h.long (λ i b. h.done i (omega arith))
