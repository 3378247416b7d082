-- Numbers one after the other. Counts and sums that agree, that are nothing, and that are at least something.
use Prim.Native.Nat.{ℕ, zero, suc, ◌+◌, ◌≤◌, ◌<◌}
use native.Mathlib.Omega.{arith}
use native.Mathlib.Nat.{add-zero, zero-add}
use native.Mathlib.Decide.{ℕ_discrete}
use mathlib.Core.Path.{◌≡◌, refl, sym, ap, ap₂, ◌∙◌}
use mathlib.Core.Bool.{Bool, true, false, cond}
use mathlib.Core.List.{map}
use lib.Dec.{eqb}
use lib.ListN.{length, get_or}
use borrow.Author.Tests.{eq-eqb, ne_eqb}
use Rattle.lists.specs.Lists.{every}
use Rattle.lists.specs.Counting.{count_from, count_below, sum_below}
use Rattle.lists.proofs.Every.{every_nil, every_cons}

-- ---- numbers from k on

pub count_length : (k n : ℕ) → length (count_from k n) ≡ n
unfolding count_from
count_length k zero = refl
count_length k (suc n) = ap suc (count_length (suc k) n)

pub every_count : {A : Type 0} (f : A → Bool) (g : ℕ → A) (k n : ℕ) → ((b : ℕ) → k ≤ b → b < k + n → f (g b) ≡ true) → every f (map g (count_from k n)) ≡ true
unfolding count_from
every_count f g k zero h = every_nil f
every_count f g k (suc n) h =
    every_cons f (g k) (map g (count_from (suc k) n)) (h k (omega arith) (omega arith)) (every_count f g (suc k) n (λ b l m. h b (omega arith) (omega arith)))

pub count_at : (k n b : ℕ) → b < n → get_or (count_from k n) b 0 ≡ k + b
unfolding count_from
count_at k zero b l = absurd (omega arith)
count_at k (suc n) zero l = sym (add-zero k)
count_at k (suc n) (suc b) l = let e : suc k + b ≡ k + suc b = omega arith in count_at (suc k) n b (omega arith) ∙ e

-- ---- counts

pub count_same : (f g : ℕ → Bool) (n : ℕ) → ((k : ℕ) → k < n → f k ≡ g k) → count_below f n ≡ count_below g n
unfolding count_below
count_same f g zero e = refl
count_same f g (suc n) e =
    let h : f 0 ≡ g 0 = e 0 (omega arith) in
    ap₂ (λ (b : Bool) (x : ℕ). cond b 1 0 + x) h (count_same (λ k. f (suc k)) (λ k. g (suc k)) n (λ k l. e (suc k) (omega arith)))

pub count_none : (f : ℕ → Bool) (n : ℕ) → ((k : ℕ) → k < n → f k ≡ false) → count_below f n ≡ 0
unfolding count_below
count_none f zero e = refl
count_none f (suc n) e =
    let h : f 0 ≡ false = e 0 (omega arith) in
    rw (h, zero-add) (count_none (λ k. f (suc k)) n (λ k l. e (suc k) (omega arith)))

pub count_front : (f : ℕ → Bool) (n m : ℕ) → ((k : ℕ) → n ≤ k → f k ≡ false) → count_below f (n + m) ≡ count_below f n
unfolding count_below
count_front f zero m e = ap (count_below f) (zero-add m) ∙ count_none f m (λ k l. e k (omega arith))
count_front f (suc n) m e =
    let q : suc n + m ≡ suc (n + m) = omega arith in
    rw q (ap (λ (x : ℕ). cond (f 0) 1 0 + x) (count_front (λ k. f (suc k)) n m (λ k l. e (suc k) (omega arith))))

pub count_some : (f : ℕ → Bool) (n k : ℕ) → k < n → f k ≡ true → 1 ≤ count_below f n
unfolding count_below
count_some f zero k l h = absurd (omega arith)
count_some f (suc n) zero l h = rw h (omega arith)
count_some f (suc n) (suc k) l h = omega (arith, count_some (λ k. f (suc k)) n k (omega arith) h)

-- ---- sums

pub sum_same : (f g : ℕ → ℕ) (n : ℕ) → ((k : ℕ) → k < n → f k ≡ g k) → sum_below f n ≡ sum_below g n
unfolding sum_below
sum_same f g zero e = refl
sum_same f g (suc n) e =
    ap₂ (λ (x y : ℕ). x + y) (e 0 (omega arith)) (sum_same (λ k. f (suc k)) (λ k. g (suc k)) n (λ k l. e (suc k) (omega arith)))

pub sum_none : (f : ℕ → ℕ) (n : ℕ) → ((k : ℕ) → k < n → f k ≡ 0) → sum_below f n ≡ 0
unfolding sum_below
sum_none f zero e = refl
sum_none f (suc n) e = omega (arith, e 0 (omega arith), sum_none (λ k. f (suc k)) n (λ k l. e (suc k) (omega arith)))

pub sum_next : (f : ℕ → ℕ) (n : ℕ) → sum_below f (suc n) ≡ sum_below f n + f n
unfolding sum_below
sum_next f zero = omega arith
sum_next f (suc n) =
    let ih : sum_below (λ k. f (suc k)) (suc n) ≡ sum_below (λ k. f (suc k)) n + f (suc n) = sum_next (λ k. f (suc k)) n in
    ap (λ (x : ℕ). f 0 + x) ih ∙ omega arith

-- a sum is at least each of its parts
pub sum_some : (f : ℕ → ℕ) (n k : ℕ) → k < n → f k ≤ sum_below f n
unfolding sum_below
sum_some f zero k l = absurd (omega arith)
sum_some f (suc n) zero l = omega arith
sum_some f (suc n) (suc k) l = omega (arith, sum_some (λ k. f (suc k)) n k (omega arith))

pub sum_add : (f g : ℕ → ℕ) (n : ℕ) → sum_below (λ k. f k + g k) n ≡ sum_below f n + sum_below g n
unfolding sum_below
sum_add f g zero = omega arith
sum_add f g (suc n) = omega (arith, sum_add (λ k. f (suc k)) (λ k. g (suc k)) n)

-- one of the numbers below n counts once
same_suc : (r k : ℕ) → eqb (suc r) (suc k) ≡ eqb r k
same_suc r k = by (ℕ_discrete r k)
  where
    by : Dec (r ≡ k) → eqb (suc r) (suc k) ≡ eqb r k
    by (yes e) = rw (eq-eqb r k e, eq-eqb (suc r) (suc k) (ap suc e))
    by (no n) = rw (ne_eqb r k n, ne_eqb (suc r) (suc k) (λ e. n (omega (arith, e))))

pub sum_one : (r n : ℕ) → r < n → sum_below (λ k. cond (eqb r k) 1 0) n ≡ 1
unfolding sum_below
sum_one r zero l = absurd (omega arith)
sum_one zero (suc n) l =
    let e : sum_below (λ k. cond (eqb 0 (suc k)) 1 0) n ≡ 0 =
    sum_none (λ k. cond (eqb 0 (suc k)) 1 0) n (λ k h. rw (ne_eqb 0 (suc k) (λ z. absurd (omega (arith, z))))) in
    omega (arith, e)
sum_one (suc r) (suc n) l =
    let e : sum_below (λ k. cond (eqb (suc r) (suc k)) 1 0) n ≡ sum_below (λ k. cond (eqb r k) 1 0) n =
    sum_same (λ k. cond (eqb (suc r) (suc k)) 1 0) (λ k. cond (eqb r k) 1 0) n (λ k h. rw (same_suc r k)) in
    let f : eqb (suc r) 0 ≡ false = ne_eqb (suc r) 0 (λ z. absurd (omega (arith, z))) in
    rw f (omega (arith, e, sum_one r n (omega arith)))
