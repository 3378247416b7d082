-- A run that stops, record by record: the records that are left come to the same as the whole.
use Prim.Native.Nat.{ℕ, suc, ◌+◌, ◌≤◌}
use native.Mathlib.Omega.{arith}
use mathlib.Core.Path.{◌≡◌, refl, sym, ap, ◌∙◌}
use mathlib.Core.Bool.{true, false}
use mathlib.Core.List.{List, [], ◌∷◌}
use lib.ListN.{length, take}
use Rattle.answers.specs.Refusals.{operation_record, lent_length}
use Rattle.answers.specs.declared.Answer.{Answer}
use Rattle.answers.specs.Answers.{quiet, refused, is_quiet}
use Rattle.session.specs.Limits.{session_length}
use Rattle.session.specs.Session.{session_length_good}
use Rattle.records.specs.Records.{record_good}
use Rattle.records.specs.Traces.{trace_records}
use Rattle.records.proofs.TraceRecords.{FirstChunk, chunk_length, next_chunk, no_chunk}
use Rattle.monitor.specs.declared.Ran.{Ran}
use Rattle.monitor.specs.Steps.{step_answer, step_effect}
use Rattle.monitor.specs.Runs.{step_on, run_answers, run_effect}
use Rattle.monitor.specs.Stops.{stop_answer, stop_count, ran, ran_effect}
use Rattle.monitor.proofs.StepLaws.{step_7}
use borrow.Author.Tests.{eq-eqb, ne_eqb, eqb-true}

-- ---- a list of records: where it stops, and the session that it leaves

-- the session that the records leave which are taken
unfoldable pub stop_effect : List ℕ → List (List ℕ) → List ℕ
stop_effect s rs = run_effect s (take (stop_count (run_answers s rs)) rs)

-- what a list of records comes to is a, n and s'
pub record StopsAt (s : List ℕ) (rs : List (List ℕ)) (a : Answer) (n : ℕ) (s' : List ℕ) : Type 0 where
  pub told : stop_answer (run_answers s rs) ≡ a
  pub count : stop_count (run_answers s rs) ≡ n
  pub left : stop_effect s rs ≡ s'

stops_none : (s : List ℕ) → StopsAt s [] (quiet 0 0 0) 0 s
unfolding stop_effect run_answers run_effect stop_answer stop_count
stops_none s = record { told = refl; count = refl; left = refl }

stops_here : (s r : List ℕ) (rs : List (List ℕ)) → is_quiet (step_answer s r) ≡ false → StopsAt s (r ∷ rs) (step_answer s r) 1 (step_effect s r)
unfolding stop_effect run_answers run_effect stop_answer stop_count step_on
stops_here s r rs q = record { told = rw q; count = rw q; left = rw q }

stops_later : (s r : List ℕ) (rs : List (List ℕ)) → is_quiet (step_answer s r) ≡ true
    → StopsAt s (r ∷ rs) (stop_answer (run_answers (step_effect s r) rs)) (suc (stop_count (run_answers (step_effect s r) rs))) (stop_effect (step_effect s r) rs)
unfolding stop_effect run_answers run_effect stop_answer stop_count step_on
stops_later s r rs q = record { told = rw q; count = rw q; left = rw q }

-- ---- the loop: taken records were quiet, rest is what is left of the trace, s the session now, s₀ at the beginning

pub record Running (s₀ t s rest : List ℕ) (taken : ℕ) : Type 0 where
  pub good : session_length_good s₀ ≡ true
  pub long : length s ≡ length s₀
  pub fewer : taken + length rest ≤ length t
  pub told : stop_answer (run_answers s (trace_records rest)) ≡ stop_answer (run_answers s₀ (trace_records t))
  pub count : taken + stop_count (run_answers s (trace_records rest)) ≡ stop_count (run_answers s₀ (trace_records t))
  pub leaves : stop_effect s (trace_records rest) ≡ stop_effect s₀ (trace_records t)

pub run_start : (s t rest : List ℕ) → rest ≡ t → length s ≡ session_length → Running s t s rest 0
unfolding session_length_good
run_start s t rest re l = rw re (record {
  good = eq-eqb (length s) session_length l;
  long = refl;
  fewer = omega arith;
  told = refl;
  count = omega arith;
  leaves = refl;
})

pub run_long : (s₀ t s rest : List ℕ) (taken : ℕ) → Running s₀ t s rest taken → length s ≡ session_length
unfolding session_length_good
run_long s₀ t s rest taken h = h.long ∙ eqb-true (length s₀) session_length h.good

-- the whole, from a list of records that is left
whole : (s₀ t s rest : List ℕ) (taken : ℕ) → Running s₀ t s rest taken → (a : Answer) (n : ℕ) (s' : List ℕ) → StopsAt s (trace_records rest) a n s'
    → (w : Ran) → w ≡ record { answer = a; taken = taken + n } → (w ≡ ran s₀ t) × (s' ≡ ran_effect s₀ t)
unfolding ran ran_effect stop_effect
whole s₀ t s rest taken h a n s' e w we =
    let o : session_length_good s₀ ≡ true = h.good in
    let f : a ≡ stop_answer (run_answers s₀ (trace_records t)) = sym e.told ∙ h.told in
    let g : taken + n ≡ stop_count (run_answers s₀ (trace_records t)) = ap (λ (k : ℕ). taken + k) (sym e.count) ∙ h.count in
    (we ∙ rw (o, f, g), sym e.left ∙ h.leaves ∙ rw o)

module _ (s₀ t s rest x left s' : List ℕ) (taken : ℕ) (a : Answer) (h : Running s₀ t s rest taken) (g : FirstChunk rest x left)
    (se : s' ≡ step_effect s x) (ae : a ≡ step_answer s x) where
  next : trace_records rest ≡ x ∷ trace_records left
  next = next_chunk g

  -- it stops
  pub run_stops : is_quiet a ≡ false → (w : Ran) → w ≡ record { answer = a; taken = taken + 1 } → (w ≡ ran s₀ t) × (s' ≡ ran_effect s₀ t)
  run_stops q w we =
      whole s₀ t s rest taken h a 1 s' (rw (next, ae, se) (stops_here s x (trace_records left) (rw ae at q))) w we

  -- it goes on
  pub run_next : is_quiet a ≡ true → length s' ≡ length s → Running s₀ t s' left (taken + 1)
  run_next q le =
      let behind : List (List ℕ) = trace_records left in
      let given = run_answers s' behind in
      let e : StopsAt s (trace_records rest) (stop_answer given) (suc (stop_count given)) (stop_effect s' behind)
      = rw (next, se) (stops_later s x behind (rw ae at q)) in
      record {
        good = h.good;
        long = le ∙ h.long;
        fewer = omega (arith, h.fewer, chunk_length g);
        told = sym e.told ∙ h.told;
        count = omega (arith, h.count, e.count);
        leaves = sym e.left ∙ h.leaves;
      }

-- it stops at bytes that are no record
pub run_refused : (s₀ t s rest x left : List ℕ) (taken : ℕ) (h : Running s₀ t s rest taken) → FirstChunk rest x left → record_good x ≡ false
    → (w : Ran) → w ≡ record { answer = refused operation_record; taken = taken + 1 } → (w ≡ ran s₀ t) × (s ≡ ran_effect s₀ t)
run_refused s₀ t s rest x left taken h g b w we =
    let e = step_7 s x (run_long s₀ t s rest taken h) b in
    run_stops s₀ t s rest x left s taken (refused operation_record) h g e.1 e.0 refl w we

pub run_end : (s₀ t s rest : List ℕ) (taken : ℕ) → Running s₀ t s rest taken → length rest ≡ 0
    → (w : Ran) → w ≡ record { answer = quiet 0 0 0; taken = taken } → (w ≡ ran s₀ t) × (s ≡ ran_effect s₀ t)
run_end s₀ t s rest taken h l w we =
    let z : taken ≡ taken + 0 = omega arith in
    whole s₀ t s rest taken h (quiet 0 0 0) 0 s (rw (no_chunk rest l) (stops_none s)) w (we ∙ ap (λ (k : ℕ). record { answer = quiet 0 0 0; taken = k }) z)

pub run_9 : (s t : List ℕ) → (length s ≡ session_length → ⊥) → (w : Ran) → w ≡ record { answer = refused lent_length; taken = 0 } → (w ≡ ran s t) × (s ≡ ran_effect s t)
unfolding ran ran_effect session_length_good run_effect
run_9 s t l w we =
    let o = ne_eqb (length s) session_length l in
    (we ∙ rw o, rw o)
