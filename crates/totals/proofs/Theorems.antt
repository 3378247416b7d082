-- FIGURES IN LENT NUMBERS: what is proved of them. `total_numbers` (specs/Totals.antt) is all that a call leaves in the numbers. It is stated over
-- `trace_figures`, of which crates/figures/proofs/Theorems.antt says what the figures are: the accepted those of the history, the alerts
-- exactly the accepted and judged steps whose receiver is forbidden what it holds.
use Rattle.std.proofs.Common.{◌≡◌, ℕ, zero, suc, ◌+◌, ◌%◌, ◌^◌, ◌<◌, ◌≤◌, true, false, List, ◌++◌, length, get_or, sym, refl, ap, ◌∙◌, ap₂, mod-eq_of_lt, arith}
use Rattle.answers.specs.Refusals.{lent_length}
use Rattle.answers.specs.declared.Answer.{Answer}
use Rattle.records.specs.Records.{record_length}
use Rattle.records.specs.Traces.{trace_records}
use Rattle.monitor.specs.Runs.{run_answers}
use Rattle.monitor.specs.PartSessions.{part_session}
use Rattle.monitor.proofs.TraceCuts.{answers_length}
use Rattle.figures.specs.Figures.{Figures, test_at, alert_at, accepted_in, alerts_in, refused_in, blocked_in, figures_of, sum_of}
use Rattle.figures.specs.Months.{trace_figures}
use Rattle.figures.proofs.CounterLaws.{values_list}
use Rattle.figures.proofs.FigureLaws.{count_most}
use Rattle.figures.proofs.MonthLaws.{records_length}
use Rattle.figures.proofs.Theorems.{figures_cut}
use Rattle.totals.specs.Totals.{figures_length, figure_numbers, total_good, total_refusal, total_numbers, total_session, added_numbers, add_good, add_refusal, add_figures}
use Rattle.totals.proofs.FigureNumbers.{figure_at, numbers_length, numbers_at}
use Rattle.totals.proofs.TotalLoop.{total_9, add_refused}

-- ---- which figure stands where

pub numbers_told : (f : Figures)
    → (get_or (figure_numbers f) 0 0 ≡ f.records) × (get_or (figure_numbers f) 1 0 ≡ accepted_in f) × (get_or (figure_numbers f) 2 0 ≡ alerts_in f)
    × (get_or (figure_numbers f) 3 0 ≡ refused_in f) × (get_or (figure_numbers f) 4 0 ≡ blocked_in f)
unfolding figure_at
numbers_told f = (
  numbers_at f 0 (omega arith),
  numbers_at f 1 (omega arith),
  numbers_at f 2 (omega arith),
  numbers_at f 3 (omega arith),
  numbers_at f 4 (omega arith),
)

pub alerts_told : (f : Figures) (c : ℕ) → c < 256 → get_or (figure_numbers f) (5 + c) 0 ≡ f.alerts_at c
unfolding figure_at
alerts_told f c l = let e : 5 + c ≡ suc (suc (suc (suc (suc c)))) = omega arith in rw e (numbers_at f (suc (suc (suc (suc (suc c))))) (omega arith))

pub figures_length_lem : (f : Figures) → length (figure_numbers f) ≡ figures_length
figures_length_lem = numbers_length

-- ---- a call

-- It is accepted exactly where session and figures have their lengths; else it is refused by 9, and nothing changes.
pub total_accepted : (s t f : List ℕ) → total_good s f ≡ true
    → (total_refusal s f ≡ 0) × (total_session s t f ≡ part_session s t) × (total_numbers s t f ≡ figure_numbers (trace_figures s t))
unfolding total_refusal total_session total_numbers
total_accepted s t f g = rw g (refl, refl, refl)

pub total_refused : (s t f : List ℕ) → total_good s f ≡ false → (total_refusal s f ≡ lent_length) × (total_session s t f ≡ s) × (total_numbers s t f ≡ f)
total_refused s t f g = let h = total_9 s t f g in (sym h.0, sym h.1, sym h.2)

-- ---- sums

-- the figures of a sum
sum_at : (f g : Figures) (k : ℕ) → figure_at (sum_of f g) k ≡ figure_at f k + figure_at g k
unfolding figure_at sum_of
sum_at f g zero = refl
sum_at f g (suc zero) = refl
sum_at f g (suc (suc zero)) = refl
sum_at f g (suc (suc (suc zero))) = refl
sum_at f g (suc (suc (suc (suc zero)))) = refl
sum_at f g (suc (suc (suc (suc (suc c))))) = refl

-- Numbers added are the numbers of the sum, where no figure of it has more than 64 bits.
pub added_sum : (f g : Figures) → ((k : ℕ) → k < figures_length → get_or (figure_numbers (sum_of f g)) k 0 < 2 ^ 64)
    → added_numbers (figure_numbers f) (figure_numbers g) ≡ figure_numbers (sum_of f g)
unfolding added_numbers
added_sum f g h =
    sym (values_list (λ k. (get_or (figure_numbers f) k 0 + get_or (figure_numbers g) k 0) % 2 ^ 64) figures_length (figure_numbers (sum_of f g)) (numbers_length (sum_of f g))
    (λ k l.
    let e : get_or (figure_numbers (sum_of f g)) k 0 ≡ get_or (figure_numbers f) k 0 + get_or (figure_numbers g) k 0 =
    numbers_at (sum_of f g) k l ∙ sum_at f g k ∙ ap₂ (λ (x y : ℕ). x + y) (sym (numbers_at f k l)) (sym (numbers_at g k l)) in
    e ∙ sym (mod-eq_of_lt (omega (arith, h k l, e)))))

-- no figure of a list of answers exceeds their number
figure_most : (l : List Answer) (k : ℕ) → figure_at (figures_of l) k ≤ length l
unfolding figure_at figures_of
figure_most l zero = omega arith
figure_most l (suc zero) = count_most (test_at 0) l
figure_most l (suc (suc zero)) = count_most (test_at 1) l
figure_most l (suc (suc (suc zero))) = count_most (test_at 2) l
figure_most l (suc (suc (suc (suc zero)))) = count_most (test_at 3) l
figure_most l (suc (suc (suc (suc (suc c))))) = count_most (alert_at c) l

-- No figure of a trace leaves its 64 bits.
pub figures_small : (s t : List ℕ) (k : ℕ) → length t < 2 ^ 64 → k < figures_length → get_or (figure_numbers (trace_figures s t)) k 0 < 2 ^ 64
unfolding trace_figures
figures_small s t k n l =
    omega (arith, numbers_at (figures_of (run_answers s (trace_records t))) k l, figure_most (run_answers s (trace_records t)) k, answers_length s (trace_records t), records_length t, n)

-- The figures of the parts of a trace that is cut between records, the second on the session that the first leaves, add up to those of the trace.
pub added_cut : (s x y : List ℕ) → length x % record_length ≡ 0 → length (x ++ y) < 2 ^ 64
    → added_numbers (figure_numbers (trace_figures s x)) (figure_numbers (trace_figures (part_session s x) y)) ≡ figure_numbers (trace_figures s (x ++ y))
added_cut s x y w n =
    let e = figures_cut s x y w in
    added_sum (trace_figures s x) (trace_figures (part_session s x) y) (λ k l. rw e at (figures_small s (x ++ y) k n l)) ∙ ap figure_numbers (sym e)

-- 9 exactly where one of the two has another length, and then nothing changes.
pub add_accepted : (total f : List ℕ) → add_good total f ≡ true → (add_refusal total f ≡ 0) × (add_figures total f ≡ added_numbers total f)
unfolding add_refusal add_figures
add_accepted total f g = rw g (refl, refl)

pub add_refused_nothing : (total f : List ℕ) → add_good total f ≡ false → (add_refusal total f ≡ lent_length) × (add_figures total f ≡ total)
add_refused_nothing total f g = let h = add_refused total f g in (sym h.0, sym h.1)
