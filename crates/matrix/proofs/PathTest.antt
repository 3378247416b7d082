-- The test for a path passes exactly where there is one.
use Prim.Native.Nat.{ℕ, zero, suc, ◌≤◌, ◌<◌}
use mathlib.Core.Path.{◌≡◌, refl}
use mathlib.Core.Bool.{Bool, true, false, ◌&&◌}
use mathlib.Core.Logic.{◌⊎◌, inl, inr}
use native.Mathlib.Decide.{ℕ_discrete}
use native.Mathlib.Omega.{arith}
use Rattle.lists.proofs.Bools.{and_in, and_0, and_1, or_0, or_1, or_cases}
use Rattle.matrix.specs.Flows.{Path, step, onward, within}

-- ---- paths

pub path_source : {f : ℕ → ℕ → Bool} {n a b : ℕ} → Path f n a b → a < n
path_source (step p q e) = p
path_source (onward p q e) = path_source p

pub path_target : {f : ℕ → ℕ → Bool} {n a b : ℕ} → Path f n a b → b < n
path_target (step p q e) = q
path_target (onward p q e) = q

pub path_append : {f : ℕ → ℕ → Bool} {n a b c : ℕ} → Path f n a b → Path f n b c → Path f n a c
path_append p (step q r e) = onward p r e
path_append p (onward q r e) = onward (path_append p q) r e

-- ---- a test that passes, and the path

module _ (f : ℕ → ℕ → Bool) where
  pub within_path : (n k a b : ℕ) → k ≤ n → a < n → b < n → within f k a b ≡ true → Path f n a b
  unfolding within
  within_path n zero a b l p q h = step p q h
  within_path n (suc k) a b l p q h =
      by (or_cases (within f k a b) h) (λ a b p q e. within_path n k a b (omega arith) p q e)
    where
      by : (within f k a b ≡ true) ⊎ ((within f k a k && within f k k b) ≡ true)
          → ((a b : ℕ) → a < n → b < n → within f k a b ≡ true → Path f n a b) → Path f n a b
      by (inl e) ih = ih a b p q e
      by (inr e) ih =
          path_append (ih a k p (omega arith) (and_0 (within f k a k) (within f k k b) e))
          (ih k b (omega arith) q (and_1 (within f k a k) e))

  -- ---- a path, and the test that passes

  -- one number more may stand between
  more : (k a b : ℕ) → within f k a b ≡ true → within f (suc k) a b ≡ true
  unfolding within
  more k a b h = or_0 (within f k a b) (within f k a k && within f k k b) h

  around : (k a b : ℕ) → within f k a k ≡ true → within f k k b ≡ true → within f (suc k) a b ≡ true
  unfolding within
  around k a b p q = or_1 (within f k a b) (within f k a k && within f k k b) (and_in p q)

  -- to k and from k there is nothing new
  to_last : (k a : ℕ) → within f (suc k) a k ≡ true → within f k a k ≡ true
  unfolding within
  to_last k a h = by (or_cases (within f k a k) h)
    where
      by : (within f k a k ≡ true) ⊎ ((within f k a k && within f k k k) ≡ true) → within f k a k ≡ true
      by (inl e) = e
      by (inr e) = and_0 (within f k a k) (within f k k k) e

  from_last : (k b : ℕ) → within f (suc k) k b ≡ true → within f k k b ≡ true
  unfolding within
  from_last k b h = by (or_cases (within f k k b) h)
    where
      by : (within f k k b ≡ true) ⊎ ((within f k k k && within f k k b) ≡ true) → within f k k b ≡ true
      by (inl e) = e
      by (inr e) = and_1 (within f k k k) e

  pub within_join : (k a c b : ℕ) → c < k → within f k a c ≡ true → within f k c b ≡ true → within f k a b ≡ true
  unfolding within
  within_join zero a c b l p q = absurd (omega arith)
  within_join (suc k) a c b l p q =
      on (ℕ_discrete c k) (λ a b l p q. within_join k a c b l p q)
    where
      both : ((a b : ℕ) → within f k a c ≡ true → within f k c b ≡ true → within f k a b ≡ true)
          → (within f k a c ≡ true) ⊎ ((within f k a k && within f k k c) ≡ true)
          → (within f k c b ≡ true) ⊎ ((within f k c k && within f k k b) ≡ true)
          → within f (suc k) a b ≡ true
      both ih (inl x) (inl y) = more k a b (ih a b x y)
      both ih (inl x) (inr y) =
          around k a b (ih a k x (and_0 (within f k c k) (within f k k b) y)) (and_1 (within f k c k) y)
      both ih (inr x) (inl y) =
          around k a b (and_0 (within f k a k) (within f k k c) x) (ih k b (and_1 (within f k a k) x) y)
      both ih (inr x) (inr y) =
          around k a b (and_0 (within f k a k) (within f k k c) x) (and_1 (within f k c k) y)

      on : Dec (c ≡ k) → ((a b : ℕ) → c < k → within f k a c ≡ true → within f k c b ≡ true → within f k a b ≡ true)
          → within f (suc k) a b ≡ true
      on (yes e) ih =
          around k a b (to_last k a (rw e at p)) (from_last k b (rw e at q))
      on (no e) ih =
          both (λ a b x y. ih a b (omega arith) x y) (or_cases (within f k a c) p) (or_cases (within f k c b) q)

  pub step_within : (k a b : ℕ) → f a b ≡ true → within f k a b ≡ true
  unfolding within
  step_within zero a b h = h
  step_within (suc k) a b h = more k a b (step_within k a b h)

  pub path_within : (n a b : ℕ) → Path f n a b → within f n a b ≡ true
  path_within n a b (step p q e) = step_within n a b e
  path_within n a c (onward {b = b} p q e) =
      within_join n a b c (path_target p) (path_within n a b p) (step_within n b c e)

-- a number that nothing leads to
pub within_none : (f : ℕ → ℕ → Bool) (n k a b : ℕ) → k ≤ n → a < n → ((a : ℕ) → a < n → f a b ≡ false) → within f k a b ≡ false
unfolding within
within_none f n zero a b l p e = e a p
within_none f n (suc k) a b l p e =
    let x : within f k a b ≡ false = within_none f n k a b (omega arith) p e in
    let z : within f k k b ≡ false = within_none f n k k b (omega arith) (omega arith) e in
    rw (x, z) (and-false (within f k a k))
  where
    and-false : (x : Bool) → (x && false) ≡ false
    and-false true = refl
    and-false false = refl
