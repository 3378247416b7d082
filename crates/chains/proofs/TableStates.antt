-- When two states are equal, and what an operation comes to.
use Prim.Native.Nat.{ℕ}
use mathlib.Core.Path.{◌≡◌, refl, ap}
use mathlib.Core.Logic.{◌⊎◌, inl, inr, ◌≢◌}
use mathlib.Core.Bool.{Bool, true, false, not, ◌||◌}
use mathlib.Core.List.{List}
use mathlib.Core.Option.{Option, none, some}
use borrow.Author.Tests.{ne_eqb}
use Rattle.lists.specs.Lists.{elem}
use Rattle.lists.specs.Conditions.{AllHold, first_failed, numbers_of, numbers_distinct}
use Rattle.lists.proofs.Bools.{clash}
use Rattle.lists.proofs.Conditions.{zero_or_not, given_none}
use Rattle.answers.specs.declared.Answer.{Answer}
use Rattle.answers.specs.Answers.{refused, is_refused}
use Rattle.chains.specs.History.{Step}
use Rattle.chains.specs.Table.{State, needs_free, rule_or, entry, is_some, process_good, object_good, kind_good, free_good, user_good}
use Rattle.chains.specs.Table.{behalf_fits, meet_good, early_conditions, table_conditions, verdict, left, operate}

-- states that give the same rows and the same rules of users are equal
pub same_state : (σ τ : State) → ((c : ℕ) → σ.row c ≡ τ.row c) → ((u : ℕ) → σ.user u ≡ τ.user u) → σ ≡ τ
same_state σ τ p q = λ i. record { row = λ c. p c i; user = λ u. q u i }

-- the rule of a declared user
pub rule_declared : (m : Option (List ℕ)) → is_some m ≡ true → m ≡ some (rule_or m)
rule_declared none e = clash e refl
rule_declared (some v) e = refl

-- what follows from a test and from its contrary holds
pub either_way : (b g : Bool) → (b || g) ≡ true → (not b || g) ≡ true → g ≡ true
either_way true g h k = k
either_way false g h k = h

-- ---- an operation, by its refusal

module _ (σ : State) (t : Step) where
  pub operate_done : first_failed (table_conditions σ t) ≡ 0 → operate σ t ≡ (left σ t (entry σ t).row, verdict t (entry σ t).row)
  unfolding operate
  operate_done e = rw e

  pub operate_refused : first_failed (table_conditions σ t) ≢ 0 → operate σ t ≡ (σ, refused (first_failed (table_conditions σ t)))
  unfolding operate
  operate_refused n = rw (ne_eqb (first_failed (table_conditions σ t)) 0 n)

  -- its answer is no refusal exactly if no condition fails
  pub operate_given : is_refused (operate σ t).1 ≡ false → first_failed (table_conditions σ t) ≡ 0
  operate_given a = by (zero_or_not (first_failed (table_conditions σ t)))
    where
      by : (first_failed (table_conditions σ t) ≡ 0) ⊎ (first_failed (table_conditions σ t) ≢ 0) → first_failed (table_conditions σ t) ≡ 0
      by (inl e) = e
      by (inr n) = clash (ap (λ (x : State × Answer). is_refused x.1) (operate_refused n)) a

  -- ---- what a step that is not refused has passed

  pub record Passed : Type 0 where
    pub process : process_good σ t ≡ true
    pub object : object_good σ t ≡ true
    pub user : user_good σ t ≡ true
    pub behalf : behalf_fits σ t ≡ true
    pub meet : meet_good σ t ≡ true

  numbers : numbers_distinct (numbers_of (table_conditions σ t)) ≡ true
  unfolding table_conditions early_conditions numbers_of numbers_distinct elem
  numbers = refl

  pub passed : first_failed (table_conditions σ t) ≡ 0 → Passed
  passed e = of ((given_none (table_conditions σ t) numbers).0 e)
    where
      of : AllHold (table_conditions σ t) → Passed
      of = unfold table_conditions early_conditions in (λ h. record {
        process = h.0;
        object = either_way (needs_free (entry σ t).need) (object_good σ t) (unfold kind_good in h.1.0) (unfold free_good in h.1.1.0);
        user = h.1.1.1.0;
        behalf = h.1.1.1.1.0;
        meet = h.1.1.1.1.1;
      })
