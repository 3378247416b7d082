-- The records of the steps of a history: how many there are, and what stands before each.
use Prim.Native.Nat.{ℕ, zero, suc, ◌+◌, ◌<◌}
use native.Mathlib.Omega.{arith}
use native.Mathlib.Nat.{zero-add}
use mathlib.Core.Path.{◌≡◌, refl, ap, ◌∙◌}
use mathlib.Core.Bool.{true, false}
use mathlib.Core.List.{List, [], ◌∷◌}
use mathlib.Core.Logic.{◌⊎◌, inl, inr}
use lib.ListN.{length, take, get_or}
use Rattle.lists.proofs.Bools.{decide}
use Rattle.answers.specs.Answers.{accepted}
use Rattle.chains.specs.History.{History, start, ◌▸◌, step_count}
use Rattle.chains.specs.Demand.{history_from, history_of}
use Rattle.records.specs.Records.{step_of}
use Rattle.monitor.specs.Steps.{step_asked, step_answer, step_effect}
use Rattle.monitor.specs.Runs.{step_on}
use Rattle.monitor.proofs.Theorems.{accepted_spelled}
use Rattle.witness.specs.Told.{numbers_from, accepted_numbers}
use Rattle.witness.proofs.TrackLaws.{skipped}
use Rattle.certificate.specs.Origins.{before}
use Rattle.certificate.proofs.OriginLaws.{before_last, before_earlier}

-- ---- one more record in front

module _ (s r : List ℕ) (a : accepted (step_answer s r) ≡ true) where
  pub history_accepted : (h : History) (rs : List (List ℕ)) → history_from step_on step_of h s (r ∷ rs) ≡ history_from step_on step_of (h ▸ step_asked r) (step_effect s r) rs
  unfolding step_on
  history_accepted h rs = rw (a, accepted_spelled s r a)

  pub numbers_accepted : (n : ℕ) (rs : List (List ℕ)) → numbers_from n s (r ∷ rs) ≡ n ∷ numbers_from (suc n) (step_effect s r) rs
  unfolding numbers_from
  numbers_accepted n rs = rw a

module _ (s r : List ℕ) (a : accepted (step_answer s r) ≡ false) where
  pub history_skipped : (h : History) (rs : List (List ℕ)) → history_from step_on step_of h s (r ∷ rs) ≡ history_from step_on step_of h (step_effect s r) rs
  unfolding step_on
  history_skipped h rs = rw (a, skipped h (step_of r))

  pub numbers_skipped : (n : ℕ) (rs : List (List ℕ)) → numbers_from n s (r ∷ rs) ≡ numbers_from (suc n) (step_effect s r) rs
  unfolding numbers_from
  numbers_skipped n rs = rw a

-- ---- as many as there are steps

pub numbers_size : (h : History) (n : ℕ) (s : List ℕ) (rs : List (List ℕ)) → step_count (history_from step_on step_of h s rs) ≡ step_count h + length (numbers_from n s rs)
numbers_size h n s [] = unfold numbers_from in omega arith
numbers_size h n s (r ∷ rs) = on (λ k. numbers_size k (suc n) (step_effect s r) rs) (decide (accepted (step_answer s r)))
  where
    on : ((k : History) → step_count (history_from step_on step_of k (step_effect s r) rs) ≡ step_count k + length (numbers_from (suc n) (step_effect s r) rs))
        → (accepted (step_answer s r) ≡ true) ⊎ (accepted (step_answer s r) ≡ false)
        → step_count (history_from step_on step_of h s (r ∷ rs)) ≡ step_count h + length (numbers_from n s (r ∷ rs))
    on ih (inl a) = rw (history_accepted s r a h rs, numbers_accepted s r a n rs) (omega (arith, ih (h ▸ step_asked r)))
    on ih (inr a) = rw (history_skipped s r a h rs, numbers_skipped s r a n rs) (ih h)

-- ---- what stands before each

-- the history before a step that stands already
pub before_from : (i : ℕ) (h : History) (s : List ℕ) (rs : List (List ℕ)) → i < step_count h → before i (history_from step_on step_of h s rs) ≡ before i h
before_from i h s [] l = refl
before_from i h s (r ∷ rs) l = on (λ k m. before_from i k (step_effect s r) rs m) (decide (accepted (step_answer s r)))
  where
    on : ((k : History) → i < step_count k → before i (history_from step_on step_of k (step_effect s r) rs) ≡ before i k)
        → (accepted (step_answer s r) ≡ true) ⊎ (accepted (step_answer s r) ≡ false)
        → before i (history_from step_on step_of h s (r ∷ rs)) ≡ before i h
    on ih (inl a) = rw (history_accepted s r a h rs) (ih (h ▸ step_asked r) (omega arith) ∙ before_earlier i h (step_asked r) l)
    on ih (inr a) = rw (history_skipped s r a h rs) (ih h l)

-- step number j behind those of h is record number m of rs
pub record NumberAt (h : History) (n : ℕ) (s : List ℕ) (rs : List (List ℕ)) (j m : ℕ) : Type 0 where
  pub is : get_or (numbers_from n s rs) j 0 ≡ n + m
  pub inside : m < length rs
  pub earlier : before (step_count h + j) (history_from step_on step_of h s rs) ≡ history_from step_on step_of h s (take m rs)
  pub numbers : numbers_from n s (take m rs) ≡ take j (numbers_from n s rs)

module _ (h : History) (n : ℕ) (s r : List ℕ) (rs : List (List ℕ)) where
  first_at : accepted (step_answer s r) ≡ true → NumberAt h n s (r ∷ rs) 0 0
  first_at a =
      let z : step_count h + 0 ≡ step_count h = omega arith in
      let y : n ≡ n + 0 = omega arith in
      record {
        is = rw (numbers_accepted s r a n rs) y;
        inside = omega arith;
        earlier =
            rw (z, history_accepted s r a h rs)
            (before_from (step_count h) (h ▸ step_asked r) (step_effect s r) rs (omega arith) ∙ before_last h (step_asked r));
        numbers = unfold numbers_from in refl;
      }

  next_at : accepted (step_answer s r) ≡ true → (j m : ℕ) → NumberAt (h ▸ step_asked r) (suc n) (step_effect s r) rs j m → NumberAt h n s (r ∷ rs) (suc j) (suc m)
  next_at a j m N =
      let z : step_count h + suc j ≡ suc (step_count h) + j = omega arith in
      let y : suc n + m ≡ n + suc m = omega arith in
      record {
        is = rw (numbers_accepted s r a n rs) (N.is ∙ y);
        inside = omega (arith, N.inside);
        earlier = rw (z, history_accepted s r a h rs, history_accepted s r a h (take m rs)) N.earlier;
        numbers = rw (numbers_accepted s r a n rs, numbers_accepted s r a n (take m rs)) (ap (λ (l : List ℕ). n ∷ l) N.numbers);
      }

  skip_at : accepted (step_answer s r) ≡ false → (j m : ℕ) → NumberAt h (suc n) (step_effect s r) rs j m → NumberAt h n s (r ∷ rs) j (suc m)
  skip_at a j m N =
      let y : suc n + m ≡ n + suc m = omega arith in
      record {
        is = rw (numbers_skipped s r a n rs) (N.is ∙ y);
        inside = omega (arith, N.inside);
        earlier = rw (history_skipped s r a h rs, history_skipped s r a h (take m rs)) N.earlier;
        numbers = rw (numbers_skipped s r a n rs, numbers_skipped s r a n (take m rs)) N.numbers;
      }

number_at : (h : History) (n : ℕ) (s : List ℕ) (rs : List (List ℕ)) (j : ℕ) → j < length (numbers_from n s rs) → (m : ℕ) × NumberAt h n s rs j m
number_at h n s [] j l = absurd (unfold numbers_from in (omega arith))
number_at h n s (r ∷ rs) j l = on (λ k i m. number_at k (suc n) (step_effect s r) rs i m) (decide (accepted (step_answer s r)))
  where
    Rest : Type 0
    Rest = (k : History) (i : ℕ) → i < length (numbers_from (suc n) (step_effect s r) rs) → (m : ℕ) × NumberAt k (suc n) (step_effect s r) rs i m

    by : Rest → accepted (step_answer s r) ≡ true → (j : ℕ) → j < suc (length (numbers_from (suc n) (step_effect s r) rs)) → (m : ℕ) × NumberAt h n s (r ∷ rs) j m
    by ih a zero l = (0, first_at h n s r rs a)
    by ih a (suc j) l = let x = ih (h ▸ step_asked r) j (omega arith) in (suc x.0, next_at h n s r rs a j x.0 x.1)

    on : Rest → (accepted (step_answer s r) ≡ true) ⊎ (accepted (step_answer s r) ≡ false) → (m : ℕ) × NumberAt h n s (r ∷ rs) j m
    on ih (inl a) = by ih a j (rw (numbers_accepted s r a n rs) at l)
    on ih (inr a) = let x = ih h j (rw (numbers_skipped s r a n rs) at l) in (suc x.0, skip_at h n s r rs a j x.0 x.1)

-- ---- of the paper's history

module _ (s : List ℕ) (rs : List (List ℕ)) where
  pub accepted_size : step_count (history_of step_on step_of s rs) ≡ length (accepted_numbers s rs)
  unfolding accepted_numbers
  accepted_size = numbers_size start 0 s rs ∙ zero-add (length (numbers_from 0 s rs))

  pub record Placed (i n : ℕ) : Type 0 where
    pub inside : n < length rs
    pub earlier : before i (history_of step_on step_of s rs) ≡ history_of step_on step_of s (take n rs)
    pub numbers : accepted_numbers s (take n rs) ≡ take i (accepted_numbers s rs)

  pub placed : (i : ℕ) → i < length (accepted_numbers s rs) → Placed i (get_or (accepted_numbers s rs) i 0)
  unfolding accepted_numbers
  placed i l =
      let x = number_at start 0 s rs i l in
      let e : get_or (numbers_from 0 s rs) i 0 ≡ x.0 = omega (arith, x.1.is) in
      let z : 0 + i ≡ i = omega arith in
      rw e record { inside = x.1.inside; earlier = rw z at x.1.earlier; numbers = x.1.numbers }
