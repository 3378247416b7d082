-- The loop of `count_trace`, record by record: what is counted, and what is left of the trace, is the whole of it. The refusals of both calls.
use Rattle.std.proofs.Common.{◌≡◌, ℕ, zero, suc, ◌+◌, ◌%◌, ◌^◌, ◌<◌, ◌≤◌, Bool, true, false, cond, List, [], ◌∷◌, length, get_or, set, sym, replicate, refl, ap, ◌∙◌, arith, length-set}
use Rattle.std.proofs.lemmas.List.{length-replicate, get_or-replicate}
use Rattle.std.proofs.Common.{get_or-set_other, get_or-set_same, ext_get_or, eq-eqb, ne_eqb}
use Rattle.lists.proofs.Bools.{and_in}
use Rattle.answers.specs.Refusals.{lent_length}
use Rattle.answers.specs.declared.Answer.{Answer}
use Rattle.answers.specs.Answers.{is_quiet}
use Rattle.answers.specs.Tallies.{count_of}
use Rattle.session.specs.Limits.{session_length}
use Rattle.session.specs.Session.{session_length_good}
use Rattle.records.specs.Traces.{trace_records}
use Rattle.records.proofs.TraceRecords.{FirstChunk, chunk_length, next_chunk, no_chunk}
use Rattle.monitor.specs.Steps.{step_answer, step_effect}
use Rattle.monitor.specs.Runs.{step_on, run_answers, run_effect}
use Rattle.monitor.specs.PartSessions.{part_session}
use Rattle.monitor.proofs.TraceCuts.{answers_length}
use Rattle.figures.specs.Figures.{test_at, figures_of}
use Rattle.figures.specs.Counters.{values_below}
use Rattle.figures.specs.Months.{trace_figures}
use Rattle.figures.proofs.FigureLaws.{count_most}
use Rattle.figures.proofs.MonthLaws.{records_length}
use Rattle.figures.proofs.Theorems.{accepted_refused}
use Rattle.totals.specs.Totals.{figures_length, figure_numbers, total_good, total_refusal, total_numbers, total_session, added_numbers, add_good, add_refusal, add_figures}
use Rattle.totals.specs.Places.{refused_count_at, blocked_count_at, event_counted, finished}
use Rattle.totals.proofs.FigureNumbers.{figure_at, numbers_length, numbers_at}
use Rattle.totals.proofs.CountedEvents.{place_test, quiet_place, event_at}
use Rattle.totals.proofs.CountedEvents as events

-- ---- the loop: so many records are counted, rest is what is left of the trace, s the session now, f the numbers, where the first two are 0

pub record Totalling (s₀ t s f rest : List ℕ) (records : ℕ) : Type 0 where
  pub long : length s ≡ length s₀
  pub wide : length f ≡ figures_length
  pub fewer : records + length rest ≤ length t
  pub count : records + length (trace_records rest) ≡ length (trace_records t)
  pub places : (i : ℕ) → 2 ≤ i → i < figures_length
      → get_or f i 0 + count_of (place_test i) (run_answers s (trace_records rest)) ≡ count_of (place_test i) (run_answers s₀ (trace_records t))
  pub leaves : run_effect s (trace_records rest) ≡ part_session s₀ t

pub total_start : (s t f rest : List ℕ) → rest ≡ t → f ≡ replicate figures_length 0 → Totalling s t s f rest 0
unfolding part_session
total_start s t f rest re e =
    rw re (record {
      long = refl;
      wide = ap length e ∙ length-replicate {A = ℕ} figures_length 0;
      fewer = omega arith;
      count = omega arith;
      places = λ i m l. let z : get_or f i 0 ≡ 0 = ap (λ (x : List ℕ). get_or x i 0) e ∙ get_or-replicate {A = ℕ} figures_length i 0 0 l in omega (arith, z);
      leaves = refl;
    })

-- what is counted at a place are at most the records, whose number is below 2 to the 64
most : (s t : List ℕ) (f : Answer → Bool) → count_of f (run_answers s (trace_records t)) ≤ length (trace_records t)
most s t f = omega (arith, count_most f (run_answers s (trace_records t)), answers_length s (trace_records t))

count_one : (f : Answer → Bool) (a : Answer) (l : List Answer) → count_of f (a ∷ l) ≡ cond (f a) 1 0 + count_of f l
unfolding count_of
count_one f a l = by (f a)
  where
    by : (b : Bool) → cond b (suc (count_of f l)) (count_of f l) ≡ cond b 1 0 + count_of f l
    by true = omega arith
    by false = omega arith

module _ (s₀ t s f rest : List ℕ) (records : ℕ) (h : Totalling s₀ t s f rest records) (x left s' : List ℕ) (a : Answer) (g : FirstChunk rest x left)
    (se : s' ≡ step_effect s x) (ae : a ≡ step_answer s x) (sl : length s' ≡ length s) where
  next : trace_records rest ≡ x ∷ trace_records left
  next = next_chunk g

  next_answers : run_answers s (trace_records rest) ≡ a ∷ run_answers s' (trace_records left)
  unfolding run_answers step_on
  next_answers = rw (next, ae, se)

  next_leaves : run_effect s' (trace_records left) ≡ part_session s₀ t
  unfolding run_effect step_on
  next_leaves = rw se (rw next at h.leaves)

  -- what is counted at a place with this answer
  next_count : (i : ℕ) → 2 ≤ i → i < figures_length
      → get_or f i 0 + cond (place_test i a) 1 0 + count_of (place_test i) (run_answers s' (trace_records left)) ≡ count_of (place_test i) (run_answers s₀ (trace_records t))
  next_count i m b =
      let y = ap (count_of (place_test i)) next_answers in
      omega (arith, h.places i m b, y, count_one (place_test i) a (run_answers s' (trace_records left)))

  -- the numbers afterwards have one more at each place whose test the answer passes
  counted : (f' : List ℕ) → length f' ≡ figures_length → ((i : ℕ) → 2 ≤ i → i < figures_length → get_or f' i 0 ≡ get_or f i 0 + cond (place_test i a) 1 0)
      → Totalling s₀ t s' f' left (records + 1)
  counted f' w e =
      record {
        long = sl ∙ h.long;
        wide = w;
        fewer = omega (arith, h.fewer, chunk_length g);
        count = let z = ap length next in omega (arith, h.count, z);
        places = λ i m b. omega (arith, e i m b, next_count i m b);
        leaves = next_leaves;
      }

  pub total_quiet : is_quiet a ≡ true → Totalling s₀ t s' f left (records + 1)
  total_quiet q =
      counted f h.wide
      (λ i m b. let z : ◌≡◌ {A = ℕ} (cond (place_test i a) 1 0) 0 = ap (λ (y : Bool). cond {A = ℕ} y 1 0) (quiet_place i a q) in omega (arith, z))

  pub total_event : is_quiet a ≡ false → length t < 2 ^ 64 → (f' : List ℕ) → f' ≡ event_counted f a → Totalling s₀ t s' f' left (records + 1)
  total_event q n f' e =
      counted f' (ap length e ∙ events.event_length_lem f a ∙ h.wide)
      (λ i m b. ap (λ (y : List ℕ). get_or y i 0) e ∙ event_at f h.wide a i q m b (λ p.
      let z : ◌≡◌ {A = ℕ} (cond (place_test i a) 1 0) 1 = ap (λ (y : Bool). cond {A = ℕ} y 1 0) p in
      omega (arith, z, next_count i m b, most s₀ t (place_test i), records_length t, n)))

-- ---- the end

-- what is counted at a place is the figure there
place_figure : (l : List Answer) (i : ℕ) → 2 ≤ i → count_of (place_test i) l ≡ figure_at (figures_of l) i
unfolding place_test figure_at figures_of test_at
place_figure l zero m = absurd (omega arith)
place_figure l (suc zero) m = absurd (omega arith)
place_figure l (suc (suc zero)) m = refl
place_figure l (suc (suc (suc zero))) m = refl
place_figure l (suc (suc (suc (suc zero)))) m = refl
place_figure l (suc (suc (suc (suc (suc c))))) m = refl

module _ (s₀ t s f rest : List ℕ) (records : ℕ) (h : Totalling s₀ t s f rest records) (l : length rest ≡ 0) where
  whole : (i : ℕ) → 2 ≤ i → i < figures_length → get_or f i 0 ≡ figure_at (trace_figures s₀ t) i
  unfolding trace_figures
  whole i m b =
      let z = ap (λ (rs : List (List ℕ)). count_of (place_test i) (run_answers s rs)) (no_chunk rest l) in
      let y : count_of (place_test i) (run_answers s []) ≡ 0 = unfold run_answers count_of in refl in
      omega (arith, h.places i m b, z, y, place_figure (run_answers s₀ (trace_records t)) i m)

  all : records ≡ length (trace_records t)
  all = let z = ap length (no_chunk rest l) in omega (arith, h.count, z)

  -- each record is accepted, refused or blocked
  each : figure_at (trace_figures s₀ t) 1 + get_or f refused_count_at 0 + get_or f blocked_count_at 0 ≡ records
  unfolding trace_figures figure_at
  each = omega (arith, accepted_refused s₀ (trace_records t), whole 3 (omega arith) (omega arith), whole 4 (omega arith) (omega arith), all)

  pub total_left : get_or f refused_count_at 0 + get_or f blocked_count_at 0 ≤ records
  total_left = omega (arith, each)

  at_place : (i : ℕ) → i < figures_length → get_or (finished f records) i 0 ≡ figure_at (trace_figures s₀ t) i
  unfolding finished
  at_place zero b =
      get_or-set_other (set f 0 records) 1 0 _ 0 (λ z. omega arith) ∙ get_or-set_same f 0 records 0 (omega (arith, h.wide))
      ∙ all ∙ unfold trace_figures figures_of figure_at in (sym (answers_length s₀ (trace_records t)))
  at_place (suc zero) b = get_or-set_same (set f 0 records) 1 _ 0 (omega (arith, h.wide, length-set f 0 records)) ∙ omega (arith, each)
  at_place (suc (suc i)) b =
      get_or-set_other (set f 0 records) 1 (suc (suc i)) _ 0 (λ z. omega arith) ∙ get_or-set_other f 0 (suc (suc i)) records 0 (λ z. omega arith)
      ∙ whole (suc (suc i)) (omega arith) b

  finished_length : length (finished f records) ≡ figures_length
  unfolding finished
  finished_length = length-set (set f 0 records) 1 _ ∙ length-set f 0 records ∙ h.wide

  numbers : finished f records ≡ figure_numbers (trace_figures s₀ t)
  numbers =
      ext_get_or 0 (finished f records) (figure_numbers (trace_figures s₀ t)) (finished_length ∙ sym (numbers_length (trace_figures s₀ t)))
      (λ i b. let m : i < figures_length = omega (arith, finished_length, b) in at_place i m ∙ sym (numbers_at (trace_figures s₀ t) i m))

  left_session : s ≡ part_session s₀ t
  unfolding run_effect
  left_session = rw (no_chunk rest l) at h.leaves

  pub total_end : (f₀ f' : List ℕ) → total_good s₀ f₀ ≡ true → f' ≡ finished f records → (0 ≡ total_refusal s₀ f₀) × (s ≡ total_session s₀ t f₀) × (f' ≡ total_numbers s₀ t f₀)
  unfolding total_refusal total_session total_numbers
  total_end f₀ f' g e = rw g (refl, left_session, e ∙ numbers)

-- ---- 9

pub total_9 : (s t f : List ℕ) → total_good s f ≡ false → (lent_length ≡ total_refusal s f) × (s ≡ total_session s t f) × (f ≡ total_numbers s t f)
unfolding total_refusal total_session total_numbers
total_9 s t f g = rw g (refl, refl, refl)

pub bad_session : (s f : List ℕ) → (length s ≡ session_length → ⊥) → total_good s f ≡ false
unfolding total_good session_length_good
bad_session s f l = rw (ne_eqb (length s) session_length l)

pub bad_numbers : (s f : List ℕ) → length s ≡ session_length → (length f ≡ figures_length → ⊥) → total_good s f ≡ false
unfolding total_good session_length_good
bad_numbers s f l m = rw (eq-eqb (length s) session_length l, ne_eqb (length f) figures_length m)

pub good_lengths : (s f : List ℕ) → length s ≡ session_length → length f ≡ figures_length → total_good s f ≡ true
unfolding total_good session_length_good
good_lengths s f l m = and_in (eq-eqb (length s) session_length l) (eq-eqb (length f) figures_length m)

-- ---- sums

pub add_refused : (total f : List ℕ) → add_good total f ≡ false → (lent_length ≡ add_refusal total f) × (total ≡ add_figures total f)
unfolding add_refusal add_figures
add_refused total f g = rw g (refl, refl)

pub bad_total : (total f : List ℕ) → (length total ≡ figures_length → ⊥) → add_good total f ≡ false
unfolding add_good
bad_total total f l = rw (ne_eqb (length total) figures_length l)

pub bad_figures : (total f : List ℕ) → length total ≡ figures_length → (length f ≡ figures_length → ⊥) → add_good total f ≡ false
unfolding add_good
bad_figures total f l m = rw (eq-eqb (length total) figures_length l, ne_eqb (length f) figures_length m)

pub add_done : (total f : List ℕ) → length total ≡ figures_length → length f ≡ figures_length → (x : List ℕ) → x ≡ values_below (λ k. (get_or total k 0 + get_or f k 0) % 2 ^ 64) figures_length
    → (0 ≡ add_refusal total f) × (x ≡ add_figures total f)
unfolding add_refusal add_figures added_numbers add_good
add_done total f l m x e = rw (eq-eqb (length total) figures_length l, eq-eqb (length f) figures_length m) (refl, e)
