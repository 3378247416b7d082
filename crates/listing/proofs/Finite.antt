-- A test that is computed at each number below a bound, turned into the fact at any of them.
use mathlib.Core.Path.{◌≡◌}
use mathlib.Core.Bool.{Bool, true, ◌&&◌}
use mathlib.Core.Logic.{⊎_elim}
use Prim.Native.Nat.{ℕ, zero, suc, ◌<◌}
use native.Mathlib.Nat.{not-suc-le-zero, le_of_suc-le-suc, eq-or-lt_of_le}
use Rattle.lists.proofs.Bools.{and_0, and_1}

abbrev pub all : (ℕ → Bool) → ℕ → Bool
all f zero = true
all f (suc k) = f k && all f k

pub all_at : (f : ℕ → Bool) (k n : ℕ) → all f k ≡ true → n < k → f n ≡ true
all_at f zero n t h = absurd (not-suc-le-zero h)
all_at f (suc k) n t h =
    ⊎_elim (λ e. rw e (and_0 (f k) (all f k) t)) (λ l. all_at f k n (and_1 (f k) t) l) (eq-or-lt_of_le (le_of_suc-le-suc h))
