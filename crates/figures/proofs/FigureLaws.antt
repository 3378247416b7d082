-- Figures of lists of answers one behind the other, and sums of figures.
use Rattle.std.proofs.Common.{◌≡◌, ℕ, suc, ◌+◌, ◌≤◌, Bool, true, false, cond, List, [], ◌∷◌, ◌++◌, length, ap, arith, length-append}
use lib.ListN.{get_or-eq_default}
use Rattle.answers.specs.declared.Answer.{Answer}
use Rattle.answers.specs.Tallies.{count_of}
use Rattle.figures.specs.Figures.{Figures, tests, count_limit, test_at, alert_at, figures_of, no_figures, sum_of}

-- ---- tests

-- behind the last test no answer passes
pub no_test : (k : ℕ) (a : Answer) → count_limit ≤ k → test_at k a ≡ false
unfolding test_at
no_test k a h = ap (λ (f : Answer → Bool). f a) (get_or-eq_default tests (λ x. false) h)

-- ---- lists one behind the other

pub count_append : (f : Answer → Bool) (l m : List Answer) → count_of f (l ++ m) ≡ count_of f l + count_of f m
unfolding count_of
count_append f [] m = omega arith
count_append f (a ∷ l) m = by (f a) (count_append f l m)
  where
    by : (b : Bool) → count_of f (l ++ m) ≡ count_of f l + count_of f m
        → cond b (suc (count_of f (l ++ m))) (count_of f (l ++ m)) ≡ cond b (suc (count_of f l)) (count_of f l) + count_of f m
    by true e = omega arith
    by false e = e

-- no more pass than there are
pub count_most : (f : Answer → Bool) (l : List Answer) → count_of f l ≤ length l
unfolding count_of
count_most f [] = omega arith
count_most f (a ∷ l) = by (f a) (count_most f l)
  where
    by : (b : Bool) → count_of f l ≤ length l → cond b (suc (count_of f l)) (count_of f l) ≤ suc (length l)
    by true h = omega arith
    by false h = omega arith

pub figures_append : (l m : List Answer) → figures_of (l ++ m) ≡ sum_of (figures_of l) (figures_of m)
unfolding figures_of sum_of
figures_append l m =
    λ i. record {
      records = length-append l m i;
      counts = λ k. count_append (test_at k) l m i;
      alerts_at = λ c. count_append (alert_at c) l m i;
    }

-- ---- sums

none_left : (n : ℕ) → 0 + n ≡ n
none_left n = omega arith

none_right : (n : ℕ) → n + 0 ≡ n
none_right n = omega arith

module _ (f : Figures) where
  pub sum_none_right : sum_of f (figures_of []) ≡ f
  unfolding sum_of figures_of count_of
  sum_none_right =
      λ i. record {
        records = none_right f.records i;
        counts = λ k. none_right (f.counts k) i;
        alerts_at = λ c. none_right (f.alerts_at c) i;
      }

  pub sum_none_left : sum_of no_figures f ≡ f
  unfolding sum_of no_figures figures_of count_of
  sum_none_left =
      λ i. record {
        records = none_left f.records i;
        counts = λ k. none_left (f.counts k) i;
        alerts_at = λ c. none_left (f.alerts_at c) i;
      }

assoc : (a b c : ℕ) → (a + b) + c ≡ a + (b + c)
assoc a b c = omega arith

pub sum_assoc : (f g h : Figures) → sum_of (sum_of f g) h ≡ sum_of f (sum_of g h)
unfolding sum_of
sum_assoc f g h =
    λ i. record {
      records = assoc f.records g.records h.records i;
      counts = λ k. assoc (f.counts k) (g.counts k) (h.counts k) i;
      alerts_at = λ c. assoc (f.alerts_at c) (g.alerts_at c) (h.alerts_at c) i;
    }
