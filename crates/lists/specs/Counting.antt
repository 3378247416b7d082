-- Numbers one after the other, the numbers below n that pass a test, and sums over the numbers below n.
use Rattle.std.specs.Prelude.{ℕ, zero, suc, ◌+◌, Bool, true, false, cond, ◌&&◌, ◌||◌, List, [], ◌∷◌}

-- n numbers from k on
unfoldable pub count_from : ℕ → ℕ → List ℕ
count_from k zero = []
count_from k (suc n) = k ∷ count_from (suc k) n

-- whether one passes
unfoldable pub some_below : (ℕ → Bool) → ℕ → Bool
some_below f zero = false
some_below f (suc n) = f 0 || some_below (λ k. f (suc k)) n

-- whether each passes
unfoldable pub all_below : (ℕ → Bool) → ℕ → Bool
all_below f zero = true
all_below f (suc n) = f 0 && all_below (λ k. f (suc k)) n

-- the least that passes; n if none does
unfoldable pub least_below : (ℕ → Bool) → ℕ → ℕ
least_below f zero = 0
least_below f (suc n) = cond (f 0) 0 (suc (least_below (λ k. f (suc k)) n))

-- how many pass
unfoldable pub count_below : (ℕ → Bool) → ℕ → ℕ
count_below f zero = 0
count_below f (suc n) = cond (f 0) 1 0 + count_below (λ k. f (suc k)) n

-- the sum of f 0 to f (n - 1)
unfoldable pub sum_below : (ℕ → ℕ) → ℕ → ℕ
sum_below f zero = 0
sum_below f (suc n) = f 0 + sum_below (λ k. f (suc k)) n
