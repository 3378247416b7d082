-- A rule at the 8 places for its mixtures, and the answers `bounded_of r` and `bounded_if_fits r`.
use Prim.Native.Nat.{ℕ, zero, suc, ◌+◌, ◌-◌, ◌≤◌, ◌<◌}
use mathlib.Core.Path.{◌≡◌, refl, sym, ap, ◌∙◌}
use mathlib.Core.Bool.{Bool, true, false, cond}
use mathlib.Core.List.{List, ◌∷◌, ◌++◌}
use native.Mathlib.Omega.{arith}
use lib.Dec.{leb}
use lib.ListN.{length, take, replicate, length-append, length-replicate}
use lib.Seq.{take_at, take-append-add}
use borrow.Author.Tests.{le-leb, lt-leb}
use Rattle.std.specs.Prelude.{Option, Some, None}
use Rattle.rules.specs.declared.Bounded.{Bounded}
use Rattle.rules.specs.Answers.{mixture_limit, padded, bounded_of, bounded_if_fits}

pub padded_take : (k : List ℕ) (n : ℕ) → length k ≡ n → take n (padded k) ≡ k
unfolding padded
padded_take k n e = take_at k (replicate (mixture_limit - length k) 0) n e

pub padded_push : (x : ℕ) (k : List ℕ) → length k < mixture_limit → x ∷ take (mixture_limit - 1) (padded k) ≡ padded (x ∷ k)
unfolding padded
padded_push x k h =
    let e : mixture_limit - length k ≡ suc (mixture_limit - suc (length k)) = omega arith in
    let f : mixture_limit - 1 ≡ length k + (mixture_limit - suc (length k)) = omega arith in
    ap (λ (l : List ℕ). x ∷ l)
    (ap (λ (j : ℕ). take (mixture_limit - 1) (k ++ replicate j 0)) e
    ∙ ap (λ (j : ℕ). take j (k ++ replicate (suc (mixture_limit - suc (length k))) 0)) f
    ∙ take-append-add k (replicate (suc (mixture_limit - suc (length k))) 0) (mixture_limit - suc (length k))
    ∙ ap (λ (l : List ℕ). k ++ l) (take_replicate (mixture_limit - suc (length k))))
  where
    take_replicate : (j : ℕ) → ◌≡◌ {A = List ℕ} (take j (replicate (suc j) 0)) (replicate j 0)
    take_replicate zero = refl
    take_replicate (suc j) = ap (λ (l : List ℕ). 0 ∷ l) (take_replicate j)

pub padded_length : (k : List ℕ) → length k ≤ mixture_limit → length (padded k) ≡ mixture_limit
unfolding padded
padded_length k h = omega (arith, length-append k (replicate (mixture_limit - length k) 0), length-replicate {A = ℕ} (mixture_limit - length k) 0)

pub bounded_is : (r k a : List ℕ) (n : ℕ) → k ≡ r → length k ≡ n → a ≡ padded k → ◌≡◌ {A = Bounded} (record { count = n; mixtures = a }) (bounded_of r)
unfolding bounded_of
bounded_is r k a n e f h = rw (h, ← f, e)

-- ---- by whether it fits

pub bounded_fits : (r : List ℕ) → length r ≤ mixture_limit → Some (bounded_of r) ≡ bounded_if_fits r
unfolding bounded_if_fits
bounded_fits r h = rw (le-leb (length r) mixture_limit h)

pub bounded_over : (r : List ℕ) → mixture_limit < length r → None ≡ bounded_if_fits r
unfolding bounded_if_fits
bounded_over r h = rw (lt-leb (length r) mixture_limit h)

-- a rule of at most 8 mixtures is there
pub bounded_there : (r : List ℕ) {o : Option Bounded} → length r ≤ mixture_limit → o ≡ bounded_if_fits r → o ≡ None → ⊥
bounded_there r l e h = let q : Some (bounded_of r) ≡ None = bounded_fits r l ∙ sym e ∙ h in cc

-- what an answer tells
pub bounded_some : (r : List ℕ) {o : Option Bounded} {m : Bounded} → o ≡ bounded_if_fits r → o ≡ Some m → (leb (length r) mixture_limit ≡ true) × (m ≡ bounded_of r)
unfolding bounded_if_fits
bounded_some r {o} {m} e h = by (leb (length r) mixture_limit) (sym h ∙ e)
  where
    by : (b : Bool) → Some m ≡ cond b (Some (bounded_of r)) None → (b ≡ true) × (m ≡ bounded_of r)
    by true q = (refl, cc)
    by false q = cc

pub bounded_none : (r : List ℕ) {o : Option Bounded} → o ≡ bounded_if_fits r → o ≡ None → leb (length r) mixture_limit ≡ false
unfolding bounded_if_fits
bounded_none r {o} e h = by (leb (length r) mixture_limit) (sym h ∙ e)
  where
    by : (b : Bool) → None ≡ cond b (Some (bounded_of r)) None → b ≡ false
    by true q = cc
    by false q = refl
