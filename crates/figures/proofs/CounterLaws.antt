-- Counters and the figures that they hold.
use Rattle.std.proofs.Common.{◌≡◌, ℕ, zero, suc, ◌+◌, ◌%◌, ◌^◌, ◌<◌, Bool, true, false, cond, ◌&&◌, eqb, List, [], ◌∷◌, ◌++◌, length, get_or, set, sym, refl, ap, ◌∙◌, ap₂, arith, length-set}
use Rattle.std.proofs.Common.{get_or-set_other, get_or-set_same, ext_get_or, eq-eqb, ne_eqb}
use native.Mathlib.Decide.{ℕ_discrete}
use Rattle.image.specs.Limits.{container_limit}
use Rattle.answers.specs.declared.Answer.{Answer}
use Rattle.answers.specs.Answers.{is_alert, receiver_of}
use Rattle.answers.specs.Tallies.{count_of}
use Rattle.figures.specs.Figures.{Figures, count_limit, test_at, alert_at, figures_of, sum_of}
use Rattle.figures.specs.Counters.{Counters, one_more, one_added, counts_with, alerted_with, counted, counted_all, values_below, counters_of, figures_in}
use Rattle.figures.proofs.FigureLaws.{figures_append, sum_none_right, sum_assoc}

-- ---- lists of values

pub values_length : (f : ℕ → ℕ) (n : ℕ) → length (values_below f n) ≡ n
unfolding values_below
values_length f zero = refl
values_length f (suc n) = ap suc (values_length (λ k. f (suc k)) n)

pub values_at : (f : ℕ → ℕ) (n k : ℕ) → k < n → get_or (values_below f n) k 0 ≡ f k
unfolding values_below
values_at f zero k l = absurd (omega arith)
values_at f (suc n) zero l = refl
values_at f (suc n) (suc k) l = values_at (λ k. f (suc k)) n k (omega arith)

pub values_same : (f g : ℕ → ℕ) (n : ℕ) → ((k : ℕ) → k < n → f k ≡ g k) → values_below f n ≡ values_below g n
unfolding values_below
values_same f g zero e = refl
values_same f g (suc n) e =
    ap₂ (λ (x : ℕ) (l : List ℕ). x ∷ l) (e 0 (omega arith)) (values_same (λ k. f (suc k)) (λ k. g (suc k)) n (λ k l. e (suc k) (omega arith)))

-- a list of so many numbers that are these values
pub values_list : (f : ℕ → ℕ) (n : ℕ) (p : List ℕ) → length p ≡ n → ((k : ℕ) → k < n → get_or p k 0 ≡ f k) → p ≡ values_below f n
values_list f n p l e =
    ext_get_or 0 p (values_below f n) (l ∙ sym (values_length f n))
    (λ k b. let h : k < n = omega (arith, l) in e k h ∙ sym (values_at f n k h))

-- ---- counters

counters_same : {k l : Counters} → k.records ≡ l.records → k.counts ≡ l.counts → k.alerted ≡ l.alerted → k ≡ l
counters_same r c p = λ i. record { records = r i; counts = c i; alerted = p i }

wrapped_more : (a : ℕ) → (a % 2 ^ 32 + 1) % 2 ^ 32 ≡ (a + 1) % 2 ^ 32
wrapped_more a = omega arith

wrapped_sum : (a b : ℕ) → (a % 2 ^ 32 + b % 2 ^ 32) % 2 ^ 32 ≡ (a + b) % 2 ^ 32
wrapped_sum a b = omega arith

wrapped_none : (a : ℕ) → a % 2 ^ 32 ≡ (a + 0) % 2 ^ 32
wrapped_none a = omega arith

-- ---- one more answer

-- numbers in 32 bits
abbrev kept : (ℕ → ℕ) → ℕ → ℕ
kept f k = f k % 2 ^ 32

module _ (f : ℕ → ℕ) where
  alerted_more : (r : ℕ) → one_added (values_below (kept f) container_limit) r ≡ values_below (λ c. (f c + cond (eqb r c) 1 0) % 2 ^ 32) container_limit
  unfolding one_added
  alerted_more r =
      values_list (λ c. (f c + cond (eqb r c) 1 0) % 2 ^ 32) container_limit
      (set (values_below (kept f) container_limit) r (one_more (get_or (values_below (kept f) container_limit) r 0)))
      (length-set (values_below (kept f) container_limit) r _ ∙ values_length (kept f) container_limit)
      (λ c l. by c l (ℕ_discrete c r))
    where
      by : (c : ℕ) → c < container_limit → Dec (c ≡ r)
          → get_or (set (values_below (kept f) container_limit) r (one_more (get_or (values_below (kept f) container_limit) r 0))) c 0 ≡ (f c + cond (eqb r c) 1 0) % 2 ^ 32
      by c l (yes e) =
          rw (← e, eq-eqb c c refl)
          (get_or-set_same (values_below (kept f) container_limit) c (one_more (get_or (values_below (kept f) container_limit) c 0)) 0 (omega (arith, values_length (kept f) container_limit))
          ∙ ap one_more (values_at (kept f) container_limit c l) ∙ wrapped_more (f c))
      by c l (no n) =
          rw (ne_eqb r c (λ e. n (sym e)))
          (get_or-set_other (values_below (kept f) container_limit) r c (one_more (get_or (values_below (kept f) container_limit) r 0)) 0 n
          ∙ values_at (kept f) container_limit c l ∙ wrapped_none (f c))

  alerted_one : (a : Answer) → alerted_with (values_below (kept f) container_limit) a ≡ values_below (λ c. (f c + count_of (alert_at c) (a ∷ [])) % 2 ^ 32) container_limit
  unfolding alerted_with count_of alert_at
  alerted_one a = by (is_alert a)
    where
      by : (b : Bool) → cond b (one_added (values_below (kept f) container_limit) (receiver_of a)) (values_below (kept f) container_limit)
          ≡ values_below (λ c. (f c + cond (b && eqb (receiver_of a) c) 1 0) % 2 ^ 32) container_limit
      by true = alerted_more (receiver_of a)
      by false = values_same (kept f) (λ c. (f c + 0) % 2 ^ 32) container_limit (λ c l. wrapped_none (f c))

  counts_one : (a : Answer) → counts_with (values_below (kept f) count_limit) a ≡ values_below (λ k. (f k + count_of (test_at k) (a ∷ [])) % 2 ^ 32) count_limit
  unfolding counts_with count_of
  counts_one a =
      values_same (λ k. cond (test_at k a) (one_more (get_or (values_below (kept f) count_limit) k 0)) (get_or (values_below (kept f) count_limit) k 0))
      (λ k. (f k + cond (test_at k a) 1 0) % 2 ^ 32) count_limit (λ k l. rw (values_at (kept f) count_limit k l) (by (f k) (test_at k a)))
    where
      by : (n : ℕ) (b : Bool) → cond b (one_more (n % 2 ^ 32)) (n % 2 ^ 32) ≡ (n + cond b 1 0) % 2 ^ 32
      by n true = wrapped_more n
      by n false = wrapped_none n

counted_one : (f : Figures) (a : Answer) → counted (counters_of f) a ≡ counters_of (sum_of f (figures_of (a ∷ [])))
unfolding counted counters_of sum_of figures_of
counted_one f a = counters_same (omega arith) (counts_one f.counts a) (alerted_one f.alerts_at a)

-- ---- lists of answers

pub counted_append : (k : Counters) (l m : List Answer) → counted_all k (l ++ m) ≡ counted_all (counted_all k l) m
unfolding counted_all
counted_append k [] m = refl
counted_append k (a ∷ l) m = counted_append (counted k a) l m

-- answers counted behind figures are figures added to them
pub counted_from : (f : Figures) (l : List Answer) → counted_all (counters_of f) l ≡ counters_of (sum_of f (figures_of l))
unfolding counted_all
counted_from f [] = ap counters_of (sym (sum_none_right f))
counted_from f (a ∷ l) =
    ap (λ (k : Counters). counted_all k l) (counted_one f a)
    ∙ counted_from (sum_of f (figures_of (a ∷ []))) l
    ∙ ap counters_of (sum_assoc f (figures_of (a ∷ [])) (figures_of l) ∙ ap (sum_of f) (sym (figures_append (a ∷ []) l)))

-- ---- the total

values_summed : (f g : ℕ → ℕ) (n : ℕ)
    → values_below (λ k. (get_or (values_below (kept f) n) k 0 + get_or (values_below (kept g) n) k 0) % 2 ^ 32) n ≡ values_below (λ k. (f k + g k) % 2 ^ 32) n
values_summed f g n =
    values_same (λ k. (get_or (values_below (kept f) n) k 0 + get_or (values_below (kept g) n) k 0) % 2 ^ 32) (λ k. (f k + g k) % 2 ^ 32) n
    (λ k l. ap₂ (λ (x y : ℕ). (x + y) % 2 ^ 32) (values_at (kept f) n k l) (values_at (kept g) n k l) ∙ wrapped_sum (f k) (g k))

pub summed_from : (f g : Figures) → counters_of (sum_of (figures_in (counters_of f)) (figures_in (counters_of g))) ≡ counters_of (sum_of f g)
unfolding counters_of figures_in sum_of
summed_from f g =
    counters_same (omega arith) (values_summed f.counts g.counts count_limit) (values_summed f.alerts_at g.alerts_at container_limit)
