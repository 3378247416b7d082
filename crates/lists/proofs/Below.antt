-- Tests of the numbers below n: whether one passes, the least, whether each does, and the loops over them.
use Prim.Native.Nat.{ℕ, zero, suc, ◌+◌, ◌≤◌, ◌<◌}
use native.Mathlib.Omega.{arith}
use mathlib.Core.Path.{◌≡◌, refl, sym, ap, ap₂, ◌∙◌}
use mathlib.Core.Bool.{Bool, true, false, cond, ◌&&◌, ◌||◌}
use mathlib.Core.Logic.{◌⊎◌, inl, inr}
use borrow.Author.Count.{below_more}
use Rattle.lists.specs.Counting.{some_below, least_below, all_below}
use Rattle.lists.proofs.Bools.{and_in, and_0, and_1, or_0, or_1, or_none, or_assoc, decide, clash, refuted}

-- ---- whether one passes

pub some_same : (f g : ℕ → Bool) (n : ℕ) → ((k : ℕ) → k < n → f k ≡ g k) → some_below f n ≡ some_below g n
unfolding some_below
some_same f g zero e = refl
some_same f g (suc n) e =
    ap₂ (λ (b x : Bool). b || x) (e 0 (omega arith)) (some_same (λ k. f (suc k)) (λ k. g (suc k)) n (λ k l. e (suc k) (omega arith)))

pub some_at : (f : ℕ → Bool) (n k : ℕ) → k < n → f k ≡ true → some_below f n ≡ true
unfolding some_below
some_at f zero k l h = absurd (omega arith)
some_at f (suc n) zero l h = or_0 (f 0) (some_below (λ k. f (suc k)) n) h
some_at f (suc n) (suc k) l h = or_1 (f 0) (some_below (λ k. f (suc k)) n) (some_at (λ k. f (suc k)) n k (omega arith) h)

pub some_none : (f : ℕ → Bool) (n : ℕ) → ((k : ℕ) → k < n → f k ≡ false) → some_below f n ≡ false
unfolding some_below
some_none f zero e = refl
some_none f (suc n) e =
    let h : f 0 ≡ false = e 0 (omega arith) in
    rw h (some_none (λ k. f (suc k)) n (λ k l. e (suc k) (omega arith)))

pub none_at : (f : ℕ → Bool) (n k : ℕ) → some_below f n ≡ false → k < n → f k ≡ false
none_at f n k h l = by (decide (f k))
  where
    by : (f k ≡ true) ⊎ (f k ≡ false) → f k ≡ false
    by (inl e) = clash (some_at f n k l e) h
    by (inr e) = e

pub some_next : (f : ℕ → Bool) (n : ℕ) → some_below f (suc n) ≡ (some_below f n || f n)
unfolding some_below
some_next f zero = or_none (f 0)
some_next f (suc n) =
    ap (λ (x : Bool). f 0 || x) (some_next (λ k. f (suc k)) n) ∙ sym (or_assoc (f 0) (some_below (λ k. f (suc k)) n) (f (suc n)))

-- ---- the least one, where there is one

pub record Least (f : ℕ → Bool) (n k : ℕ) : Type 0 where
  pub below : k < n
  pub passes : f k ≡ true
  pub before : (j : ℕ) → j < k → f j ≡ false

pub least_is : (f : ℕ → Bool) (n k : ℕ) → k < n → f k ≡ true → ((j : ℕ) → j < k → f j ≡ false) → least_below f n ≡ k
unfolding least_below
least_is f zero k l h e = absurd (omega arith)
least_is f (suc n) zero l h e = rw h
least_is f (suc n) (suc k) l h e =
    let z : f 0 ≡ false = e 0 (omega arith) in
    rw z (ap suc (least_is (λ k. f (suc k)) n k (omega arith) h (λ j m. e (suc j) (omega arith))))

pub least_some : (f : ℕ → Bool) (n : ℕ) → some_below f n ≡ true → Least f n (least_below f n)
unfolding least_below some_below
least_some f zero h = clash h refl
least_some f (suc n) h = by (f 0) refl (λ g. least_some (λ k. f (suc k)) n g)
  where
    by : (b : Bool) → f 0 ≡ b → (some_below (λ k. f (suc k)) n ≡ true → Least (λ k. f (suc k)) n (least_below (λ k. f (suc k)) n)) → Least f (suc n) (cond b 0 (suc (least_below (λ k. f (suc k)) n)))
    by true e ih = record { below = omega arith; passes = e; before = λ j l. absurd (omega arith) }
    by false e ih =
        let g : some_below (λ k. f (suc k)) n ≡ true = rw e at h in
        let x : Least (λ k. f (suc k)) n (least_below (λ k. f (suc k)) n) = ih g in
        record { below = omega arith; passes = x.passes; before = early e x }
      where
        early : f 0 ≡ false → Least (λ k. f (suc k)) n (least_below (λ k. f (suc k)) n) → (j : ℕ) → j < suc (least_below (λ k. f (suc k)) n) → f j ≡ false
        early e x zero l = e
        early e x (suc j) l = x.before j (omega arith)

pub least_none : (f : ℕ → Bool) (n : ℕ) → ((k : ℕ) → k < n → f k ≡ false) → least_below f n ≡ n
unfolding least_below
least_none f zero h = refl
least_none f (suc n) h =
    let z : f 0 ≡ false = h 0 (omega arith) in
    rw z (ap suc (least_none (λ k. f (suc k)) n (λ k m. h (suc k) (omega arith))))

-- ---- whether each passes

pub all_at : (f : ℕ → Bool) (n k : ℕ) → all_below f n ≡ true → k < n → f k ≡ true
unfolding all_below
all_at f zero k h l = absurd (omega arith)
all_at f (suc n) zero h l = and_0 (f 0) (all_below (λ k. f (suc k)) n) h
all_at f (suc n) (suc k) h l = all_at (λ k. f (suc k)) n k (and_1 (f 0) h) (omega arith)

pub all_in : (f : ℕ → Bool) (n : ℕ) → ((k : ℕ) → k < n → f k ≡ true) → all_below f n ≡ true
unfolding all_below
all_in f zero h = refl
all_in f (suc n) h = and_in (h 0 (omega arith)) (all_in (λ k. f (suc k)) n (λ k l. h (suc k) (omega arith)))

pub all_same : (f g : ℕ → Bool) (n : ℕ) → ((k : ℕ) → k < n → f k ≡ g k) → all_below f n ≡ all_below g n
unfolding all_below
all_same f g zero e = refl
all_same f g (suc n) e =
    ap₂ (λ (b x : Bool). b && x) (e 0 (omega arith)) (all_same (λ k. f (suc k)) (λ k. g (suc k)) n (λ k l. e (suc k) (omega arith)))

-- where not each passes, one that fails
pub record Miss (f : ℕ → Bool) (n : ℕ) : Type 0 where
  pub place : ℕ
  pub below : place < n
  pub fails : f place ≡ false

pub all_miss : (f : ℕ → Bool) (n : ℕ) → all_below f n ≡ false → Miss f n
unfolding all_below
all_miss f zero h = clash refl h
all_miss f (suc n) h = by (f 0) refl (all_miss (λ k. f (suc k)) n)
  where
    by : (b : Bool) → f 0 ≡ b → (all_below (λ k. f (suc k)) n ≡ false → Miss (λ k. f (suc k)) n) → Miss f (suc n)
    by false e ih = record { place = 0; below = omega arith; fails = e }
    by true e ih =
        let g : all_below (λ k. f (suc k)) n ≡ false = rw e at h in
        let m : Miss (λ k. f (suc k)) n = ih g in
        record { place = suc m.place; below = omega (arith, m.below); fails = m.fails }

-- ---- a loop over the numbers below n: those before i have passed

pub record Passing (f : ℕ → Bool) (n i : ℕ) : Type 0 where
  pub place : i ≤ n
  pub done : (k : ℕ) → k < i → f k ≡ true

module _ (f : ℕ → Bool) (n : ℕ) where
  pub passing_start : Passing f n 0
  passing_start = record { place = omega arith; done = λ k l. absurd (omega arith) }

  pub passing_next : (i : ℕ) → Passing f n i → i < n → f i ≡ true → Passing f n (i + 1)
  passing_next i p l h = record { place = omega arith; done = below_more (λ k. f k ≡ true) i p.done h }

  pub passing_fails : (i : ℕ) → i < n → f i ≡ false → false ≡ all_below f n
  passing_fails i l h = sym (refuted (all_below f n) (λ e. clash (all_at f n i e l) h))

  pub passing_end : (i : ℕ) → Passing f n i → n ≤ i → true ≡ all_below f n
  passing_end i p l = sym (all_in f n (λ k m. p.done k (omega arith)))

-- ---- the same of one that looks for the first that passes: those before i have failed

pub record Failing (f : ℕ → Bool) (n i : ℕ) : Type 0 where
  pub place : i ≤ n
  pub done : (k : ℕ) → k < i → f k ≡ false

module _ (f : ℕ → Bool) (n : ℕ) where
  pub failing_start : Failing f n 0
  failing_start = record { place = omega arith; done = λ k l. absurd (omega arith) }

  pub failing_next : (i : ℕ) → Failing f n i → i < n → f i ≡ false → Failing f n (i + 1)
  failing_next i p l h = record { place = omega arith; done = below_more (λ k. f k ≡ false) i p.done h }

  pub failing_end : (i : ℕ) → Failing f n i → n ≤ i → some_below f n ≡ false
  failing_end i p l = some_none f n (λ k m. p.done k (omega arith))
