-- The set bits of a number, counted.
use Prim.Native.Nat.{ℕ, zero, suc, ◌+◌, ◌/◌, ◌%◌, ◌^◌, ◌<◌}
use mathlib.Core.Path.{◌≡◌, refl, sym, ap₂, ◌∙◌}
use mathlib.Core.Bool.{cond}
use native.Mathlib.Decide.{ℕ_discrete}
use native.Mathlib.Omega.{arith}
use lib.Count.{ones, ones_step}
use lib.Dec.{eqb}
use borrow.Author.Tests.{eq-eqb, ne_eqb}
use Rattle.lists.specs.Counting.{count_below}
use Rattle.lists.proofs.Counting.{count_same}
use Rattle.matrix.specs.Flows.{has}
use Rattle.matrix.proofs.RowBits.{has_first, has_next}

first_one : (n : ℕ) → n % 2 ≡ cond (has n 0) 1 0
first_one n = rw (has_first n) (by (ℕ_discrete (n % 2) 1))
  where
    by : Dec (n % 2 ≡ 1) → n % 2 ≡ cond (eqb (n % 2) 1) 1 0
    by (yes e) = rw (eq-eqb (n % 2) 1 e) e
    by (no e) = rw (ne_eqb (n % 2) 1 e) (omega arith)

pub ones_count : (w n : ℕ) → n < 2 ^ w → ones n ≡ count_below (has n) w
unfolding count_below
ones_count zero n h = let e : n ≡ 0 = omega arith in rw e (unfold ones in refl)
ones_count (suc w) n h =
    let ih : ones (n / 2) ≡ count_below (has (n / 2)) w = ones_count w (n / 2) (omega arith) in
    ones_step n ∙ ap₂ (λ (x y : ℕ). x + y) (first_one n) (ih ∙ count_same (has (n / 2)) (λ k. has n (suc k)) w (λ k l. sym (has_next n k)))
