-- A number is given exactly when its condition is the first to fail, and no other number is given.
use Prim.Native.Nat.{ℕ, zero, suc, ◌<◌}
use native.Mathlib.Omega.{arith}
use mathlib.Core.Path.{◌≡◌, refl, sym, ap, ◌∙◌}
use mathlib.Core.Logic.{◌⊎◌, inl, inr, ◌↔◌, ◌≢◌}
use mathlib.Core.Bool.{Bool, true, false, not, cond}
use mathlib.Core.List.{List, [], ◌∷◌, ◌++◌}
use lib.Dec.{eqb}
use lib.ListN.{length}
use borrow.Author.Tests.{eqb-false, not-true}
use Rattle.lists.specs.Lists.{elem}
use Rattle.lists.specs.Conditions.{Condition, first_failed, FailsFirst, AllHold, numbers_of, number_at, numbers_distinct}
use Rattle.lists.proofs.Bools.{and_0, and_1, clash}
use Rattle.lists.proofs.Elem.{elem_here, elem_there, elem_cases}

-- ---- the conditions one by one

module _ (c : Condition) (cs : List Condition) where
  pub passed : c.holds ≡ true → first_failed (c ∷ cs) ≡ first_failed cs
  unfolding first_failed
  passed h = rw h

  pub failed : c.holds ≡ false → first_failed (c ∷ cs) ≡ c.number
  unfolding first_failed
  failed h = rw h

pub none_left : first_failed [] ≡ 0
unfolding first_failed
none_left = refl

-- ---- conditions behind others

-- those behind do not matter where one of the first fails
pub first_stops : (cs ds : List Condition) → first_failed cs ≢ 0 → first_failed (cs ++ ds) ≡ first_failed cs
unfolding first_failed
first_stops [] ds n = absurd (n refl)
first_stops (c ∷ cs) ds n = by c.holds n (first_stops cs ds)
  where
    by : (b : Bool) → cond b (first_failed cs) c.number ≢ 0 → (first_failed cs ≢ 0 → first_failed (cs ++ ds) ≡ first_failed cs)
        → cond b (first_failed (cs ++ ds)) c.number ≡ cond b (first_failed cs) c.number
    by true n ih = ih n
    by false n ih = refl

-- and decide where the first ones hold
pub first_passed : (cs ds : List Condition) → AllHold cs → first_failed (cs ++ ds) ≡ first_failed ds
first_passed [] ds h = refl
first_passed (c ∷ []) ds h = passed c ds h
first_passed (c ∷ d ∷ cs) ds h = passed c (d ∷ cs ++ ds) h.0 ∙ first_passed (d ∷ cs) ds h.1

-- a number is 0 or not
pub zero_or_not : (n : ℕ) → (n ≡ 0) ⊎ (n ≢ 0)
zero_or_not zero = inl refl
zero_or_not (suc n) = inr (λ e. omega arith)

-- ---- no other number is given

pub given_among : (cs : List Condition) → elem (first_failed cs) (0 ∷ numbers_of cs) ≡ true
unfolding first_failed numbers_of
given_among [] = elem_here 0 []
given_among (c ∷ cs) = by c.holds (elem_cases (first_failed cs) 0 (numbers_of cs) (given_among cs))
  where
    by : (b : Bool) → (first_failed cs ≡ 0) ⊎ (elem (first_failed cs) (numbers_of cs) ≡ true) → elem (cond b (first_failed cs) c.number) (0 ∷ c.number ∷ numbers_of cs) ≡ true
    by true (inl e) = rw e (elem_here 0 (c.number ∷ numbers_of cs))
    by true (inr e) = elem_there (first_failed cs) 0 (c.number ∷ numbers_of cs) (elem_there (first_failed cs) c.number (numbers_of cs) e)
    by false e = elem_there c.number 0 (c.number ∷ numbers_of cs) (elem_here c.number (numbers_of cs))

-- ---- numbers that are not 0 and differ

module _ (c : Condition) (cs : List Condition) (g : numbers_distinct (numbers_of (c ∷ cs)) ≡ true) where
  number_some : c.number ≢ 0
  unfolding numbers_distinct numbers_of
  number_some = eqb-false c.number 0 (not-true (eqb c.number 0) (and_0 (not (eqb c.number 0)) _ g))

  number_apart : elem c.number (numbers_of cs) ≡ false
  unfolding numbers_distinct numbers_of
  number_apart = not-true (elem c.number (numbers_of cs)) (and_0 (not (elem c.number (numbers_of cs))) _ (and_1 (not (eqb c.number 0)) g))

  numbers_rest : numbers_distinct (numbers_of cs) ≡ true
  unfolding numbers_distinct numbers_of
  numbers_rest = and_1 (not (elem c.number (numbers_of cs))) (and_1 (not (eqb c.number 0)) g)

  not_later : first_failed cs ≢ c.number
  not_later e = on (elem_cases (first_failed cs) 0 (numbers_of cs) (given_among cs))
    where
      on : (first_failed cs ≡ 0) ⊎ (elem (first_failed cs) (numbers_of cs) ≡ true) → ⊥
      on (inl z) = number_some (sym e ∙ z)
      on (inr m) = clash (ap (λ (n : ℕ). elem n (numbers_of cs)) (sym e) ∙ m) number_apart

at_among : (cs : List Condition) (k : ℕ) → k < length cs → elem (number_at cs k) (numbers_of cs) ≡ true
unfolding number_at numbers_of
at_among [] k l = absurd (omega arith)
at_among (c ∷ cs) zero l = elem_here c.number (numbers_of cs)
at_among (c ∷ cs) (suc k) l = elem_there (number_at cs k) c.number (numbers_of cs) (at_among cs k (omega arith))

-- ---- each number exactly under its condition

module _ (c : Condition) (cs : List Condition) (g : numbers_distinct (numbers_of (c ∷ cs)) ≡ true) where
  here : (first_failed (c ∷ cs) ≡ c.number) ↔ (c.holds ≡ false)
  here = (on c.holds refl, failed c cs)
    where
      on : (b : Bool) → c.holds ≡ b → first_failed (c ∷ cs) ≡ c.number → c.holds ≡ false
      on true h e = absurd (not_later c cs g (sym (passed c cs h) ∙ e))
      on false h e = h

  -- a number that is not the first condition's is given if that holds, and the rest gives it
  behind : {X : Type 0} (n : ℕ) → n ≢ c.number → (first_failed cs ≡ n) ↔ X → (first_failed (c ∷ cs) ≡ n) ↔ ((c.holds ≡ true) × X)
  behind {X} n ne (to, back) = (on c.holds refl, λ h. passed c cs h.0 ∙ back h.1)
    where
      on : (b : Bool) → c.holds ≡ b → first_failed (c ∷ cs) ≡ n → (c.holds ≡ true) × X
      on true h e = (h, to (sym (passed c cs h) ∙ e))
      on false h e = absurd (ne (sym e ∙ failed c cs h))

pub given_exactly : (cs : List Condition) → numbers_distinct (numbers_of cs) ≡ true → (k : ℕ) → k < length cs → (first_failed cs ≡ number_at cs k) ↔ FailsFirst cs k
unfolding number_at numbers_of
given_exactly [] g k l = absurd (omega arith)
given_exactly (c ∷ cs) g zero l = here c cs g
given_exactly (c ∷ cs) g (suc k) l =
    behind c cs g (number_at cs k) (λ e. clash (ap (λ (n : ℕ). elem n (numbers_of cs)) (sym e) ∙ at_among cs k (omega arith)) (number_apart c cs g))
    (given_exactly cs (numbers_rest c cs g) k (omega arith))

-- 0 exactly if each holds
pub given_none : (cs : List Condition) → numbers_distinct (numbers_of cs) ≡ true → (first_failed cs ≡ 0) ↔ AllHold cs
given_none [] g = (λ e. tt, λ h. none_left)
given_none (c ∷ []) g = (λ e. ((behind c [] g 0 (λ z. number_some c [] g (sym z)) (given_none [] (numbers_rest c [] g))).0 e).0, λ h. passed c [] h ∙ none_left)
given_none (c ∷ d ∷ cs) g = behind c (d ∷ cs) g 0 (λ z. number_some c (d ∷ cs) g (sym z)) (given_none (d ∷ cs) (numbers_rest c (d ∷ cs) g))
