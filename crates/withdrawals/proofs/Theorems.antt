-- What is proved of the judgement on a proposal to withdraw rights, stated in full. The proofs are in the files that are cited.
use Prim.Native.Nat.{ℕ, ◌<◌}
use native.Mathlib.Omega.{arith}
use mathlib.Core.Path.{◌≡◌, refl}
use mathlib.Core.Bool.{Bool, true, false, ◌&&◌, ◌||◌}
use mathlib.Core.List.{List, [], ◌∷◌}
use mathlib.Core.Logic.{inl, inr, ◌↔◌, ◌≢◌}
use lib.Dec.{eqb}
use lib.ListN.{length}
use Rattle.lists.specs.Lists.{elem}
use Rattle.lists.specs.Conditions.{Condition, numbers_of, number_at, numbers_distinct}
use Rattle.lists.proofs.Conditions.{given_exactly, given_none, given_among}
use Rattle.lists.proofs.Bools.{refuted, clash}
use Rattle.std.proofs.Common.{Result}
use Rattle.answers.specs.declared.Refusal.{Refusal}
use Rattle.answers.specs.Refusals.{matrix}
use Rattle.matrix.specs.Flows.{granted, Matrix, well_formed}
use Rattle.matrix.specs.Verdicts.{consistent, matrix_verdict, MatrixAlone}
use Rattle.matrix.specs.Rows.{bit_at}
use Rattle.withdrawals.specs.Judgements.{with_right, comparable, stays_consistent, judgement_conditions, judgement_of, judgement_number}
use Rattle.withdrawals.specs.declared.Judgement.{Judgement}
use Rattle.withdrawals.specs.Rights.{Comparable, SomeBeyond, NoneAdded, SomeAdded, AllKept, SomeLost, AllGranted, SomeUngranted, EachNeeded, SomeReturns}
use Rattle.withdrawals.specs.Returns.{with_flows, stays_closed}
use Rattle.withdrawals.proofs.TransitiveLaws as transitive
use Rattle.withdrawals.proofs.ReturnedRights as rights
use Rattle.withdrawals.proofs.JudgementTests.{comparable_parts, parts_comparable}
use Rattle.withdrawals.proofs.JudgementTests as judgements
use Rattle.withdrawals.proofs.ConditionLaws.{none_added_lem, some_added, all_kept_lem, some_lost, stays_consistent_lem, stays_verdict, not_consistent, each_needed, some_returns}

-- ---- consistency without a closure

-- a matrix is consistent exactly when its granted flows are transitive
pub consistent_transitive : (reads writes : List ℕ) (objects : ℕ) →
    (consistent reads writes objects ≡ true)
    ↔ ((a b c : ℕ) → a < objects → b < objects → c < objects → granted reads writes a b ≡ true → granted reads writes b c ≡ true → granted reads writes a c ≡ true)
consistent_transitive = transitive.consistent_transitive

-- a transitive relation to which each source with each target is added is transitive exactly if the test says so that the code makes of a
-- right that returns: what leads to a source stands with all that is reached from a target
pub returns_transitive : (f : ℕ → ℕ → Bool) (n sources targets : ℕ) →
    ((a : ℕ) → a < n → f a a ≡ true) →
    ((a b c : ℕ) → a < n → b < n → c < n → f a b ≡ true → f b c ≡ true → f a c ≡ true) →
    (stays_closed f n sources targets ≡ true)
    ↔ ((a b c : ℕ) → a < n → b < n → c < n → with_flows f sources targets a b ≡ true → with_flows f sources targets b c ≡ true → with_flows f sources targets a c ≡ true)
returns_transitive = transitive.stays_transitive

-- the third condition holds exactly if the verdict on the proposal, by itself, is 0
pub consistent_verdict : (proposed : Matrix) → well_formed proposed ≡ true →
    (stays_consistent proposed ≡ true) ↔ ((matrix_verdict proposed.reads proposed.writes proposed.objects).number ≡ 0)
consistent_verdict = stays_verdict

-- ---- a right put back alone

-- the rows have that right, all that they had, and no other
pub right_back : (rows : List ℕ) (s k t j : ℕ) → s < length rows → bit_at (with_right rows s k) t j ≡ (bit_at rows t j || (eqb s t && eqb k j))
right_back = rights.right_back

-- ---- the judgement

-- conditions that say the same
abbrev Same : Bool → Type 0 → Type 0
Same b C = (b ≡ true) ↔ C

fails : {b : Bool} {C : Type 0} → Same b C → (b ≡ false) ↔ (C → ⊥)
fails {b} {C} (to, back) = (λ h x. clash (back x) h, λ n. refuted b (λ h. n (to h)))

module _ (old required proposed : Matrix) where
  abbrev cs : List Condition
  cs = judgement_conditions old required proposed

  comparable_same : Same (comparable old required proposed) (Comparable old required proposed)
  comparable_same = (comparable_parts old required proposed, parts_comparable old required proposed)

  -- a statement under the conditions before it
  under : {b : Bool} {C X Y : Type 0} → Same b C → (C → X ↔ Y) → ((b ≡ true) × X) ↔ (C × Y)
  under {b} {C} {X} {Y} (to, back) f = (λ h. (to h.0, (f (to h.0)).0 h.1), λ h. (back h.0, (f h.0).1 h.1))

  -- one equivalence after the other
  through : {X Y Z : Type 0} → X ↔ Y → Y ↔ Z → X ↔ Z
  through {X} {Y} {Z} (f, g) (h, k) = (λ x. h (f x), λ z. g (k z))

  -- 0 exactly if the four conditions hold: no right is new, all that must stay is kept, every composed flow of the proposal is granted,
  -- and for each right that was withdrawn some composed flow is not granted once it alone returns
  pub accepted : (judgement_of old required proposed ≡ 0)
      ↔ (Comparable old required proposed
      × (NoneAdded old proposed
      × (AllKept required proposed
      × (AllGranted proposed.reads proposed.writes proposed.objects × EachNeeded old proposed))))
  unfolding judgement_of judgement_conditions numbers_distinct numbers_of elem
  accepted =
      through (given_none cs refl)
      (under comparable_same
      (λ c. under (none_added_lem old proposed)
      (λ _. under (all_kept_lem required proposed) (λ _. under (stays_consistent_lem proposed) (λ _. each_needed old required proposed c)))))

  -- 1 exactly if a right is new
  pub fails_1 : (judgement_of old required proposed ≡ 1) ↔ (Comparable old required proposed × SomeAdded old proposed)
  unfolding judgement_of judgement_conditions numbers_distinct numbers_of number_at elem
  fails_1 = through (given_exactly cs refl 1 (omega arith)) (under comparable_same (λ c. some_added old required proposed c))

  -- 2 exactly if none is new, and something that must stay is not kept
  pub fails_2 : (judgement_of old required proposed ≡ 2)
      ↔ (Comparable old required proposed × (NoneAdded old proposed × SomeLost required proposed))
  unfolding judgement_of judgement_conditions numbers_distinct numbers_of number_at elem
  fails_2 =
      through (given_exactly cs refl 2 (omega arith))
      (under comparable_same (λ c. under (none_added_lem old proposed) (λ _. some_lost old required proposed c)))

  -- 3 exactly if these hold, and a composed flow is not granted
  pub fails_3 : (judgement_of old required proposed ≡ 3)
      ↔ (Comparable old required proposed
      × (NoneAdded old proposed × (AllKept required proposed × SomeUngranted proposed.reads proposed.writes proposed.objects)))
  unfolding judgement_of judgement_conditions numbers_distinct numbers_of number_at elem
  fails_3 =
      through (given_exactly cs refl 3 (omega arith))
      (under comparable_same (λ _. under (none_added_lem old proposed) (λ _. under (all_kept_lem required proposed) (λ _. not_consistent proposed))))

  -- 4 exactly if these hold, and a right that was withdrawn may return alone
  pub fails_4 : (judgement_of old required proposed ≡ 4)
      ↔ (Comparable old required proposed
      × (NoneAdded old proposed
      × (AllKept required proposed
      × (AllGranted proposed.reads proposed.writes proposed.objects × SomeReturns old proposed))))
  unfolding judgement_of judgement_conditions numbers_distinct numbers_of number_at elem
  fails_4 =
      through (given_exactly cs refl 4 (omega arith))
      (under comparable_same
      (λ c. under (none_added_lem old proposed)
      (λ _. under (all_kept_lem required proposed) (λ _. under (stays_consistent_lem proposed) (λ _. some_returns old required proposed c)))))

  -- 8 exactly if one of the three is malformed or counts differ
  pub refused_8 : (judgement_of old required proposed ≡ matrix) ↔ (Comparable old required proposed → ⊥)
  unfolding judgement_of judgement_conditions numbers_distinct numbers_of number_at elem
  refused_8 = through (given_exactly cs refl 0 (omega arith)) (fails comparable_same)

  -- and no other number
  pub judged_among : elem (judgement_of old required proposed) (0 ∷ matrix ∷ 1 ∷ 2 ∷ 3 ∷ 4 ∷ []) ≡ true
  unfolding judgement_of judgement_conditions numbers_of
  judged_among = given_among cs

-- an answer is known by its number: what fixes the number fixes the case
pub numbers_apart : (i j : Result Judgement Refusal) → MatrixAlone i → MatrixAlone j → judgement_number i ≡ judgement_number j → i ≡ j
numbers_apart = judgements.numbers_apart

-- ---- a proposal that withdraws nothing

-- no right is one that the same rows lack
none_beyond : (rows : List ℕ) → SomeBeyond rows rows → ⊥
none_beyond rows u = clash u.there u.lacking

module _ (old required : Matrix) where
  -- it is accepted exactly if the old matrix has all that must stay, and each of its composed flows is granted
  pub unchanged_accepted : (judgement_of old required old ≡ 0)
      ↔ (Comparable old required old × (AllKept required old × AllGranted old.reads old.writes old.objects))
  unchanged_accepted = (
    λ e. let h = (accepted old required old).0 e in (h.0, (h.1.1.0, h.1.1.1.0)),
    λ h. (accepted old required old).1
        (h.0, (((λ s k e. e), (λ s k e. e)), (h.1.0, (h.1.1, ((λ s k p q. clash p q), (λ s k p q. clash p q)))))),
  )

  -- no right is added and none returns: neither 1 nor 4 is given
  pub unchanged_never : (judgement_of old required old ≢ 1) × (judgement_of old required old ≢ 4)
  unchanged_never = ((λ e. added ((fails_1 old required old).0 e).1), (λ e. returned ((fails_4 old required old).0 e).1.1.1.1))
    where
      added : SomeAdded old old → ⊥
      added (inl u) = none_beyond old.reads u
      added (inr u) = none_beyond old.writes u

      returned : SomeReturns old old → ⊥
      returned (inl u) = none_beyond old.reads u.right
      returned (inr u) = none_beyond old.writes u.right
