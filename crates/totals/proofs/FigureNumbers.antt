-- Figures as numbers: which figure stands at which place.
use Rattle.std.proofs.Common.{◌≡◌, ℕ, zero, suc, ◌+◌, ◌<◌, ◌∷◌, ◌++◌, length, get_or, refl, arith, length-append}
use Rattle.image.specs.Limits.{container_limit}
use Rattle.figures.specs.Figures.{Figures, count_limit}
use Rattle.figures.specs.Counters.{values_below}
use Rattle.figures.proofs.CounterLaws.{values_length, values_at}
use Rattle.totals.specs.Totals.{figures_length, figure_numbers}

-- ---- the figure at a place

-- of any figures
unfoldable pub figure_at : Figures → ℕ → ℕ
figure_at f zero = f.records
figure_at f (suc zero) = f.counts 0
figure_at f (suc (suc zero)) = f.counts 1
figure_at f (suc (suc (suc zero))) = f.counts 2
figure_at f (suc (suc (suc (suc zero)))) = f.counts 3
figure_at f (suc (suc (suc (suc (suc c))))) = f.alerts_at c

pub numbers_length : (f : Figures) → length (figure_numbers f) ≡ figures_length
unfolding figure_numbers
numbers_length f =
    let e = length-append (values_below f.counts count_limit) (values_below f.alerts_at container_limit) in
    omega (arith, e, values_length f.counts count_limit, values_length f.alerts_at container_limit)

pub numbers_at : (f : Figures) (k : ℕ) → k < figures_length → get_or (figure_numbers f) k 0 ≡ figure_at f k
unfolding figure_numbers figure_at
numbers_at f k l = by container_limit k l
  where
    by : (n k : ℕ) → k < 5 + n → get_or (f.records ∷ (values_below f.counts count_limit ++ values_below f.alerts_at n)) k 0 ≡ figure_at f k
    by n zero l = refl
    by n (suc zero) l = unfold values_below in refl
    by n (suc (suc zero)) l = unfold values_below in refl
    by n (suc (suc (suc zero))) l = unfold values_below in refl
    by n (suc (suc (suc (suc zero)))) l = unfold values_below in refl
    by n (suc (suc (suc (suc (suc c))))) l = unfold values_below in (values_at f.alerts_at n c (omega arith))
