-- Membership in a list of numbers.
use Prim.Native.Nat.{ℕ}
use mathlib.Core.Path.{◌≡◌, refl}
use mathlib.Core.Bool.{true, false}
use mathlib.Core.List.{List, [], ◌∷◌}
use mathlib.Core.Logic.{◌⊎◌, inl, inr, ⊎_elim}
use lib.Dec.{eqb}
use borrow.Author.Tests.{eqb-true, eq-eqb}
use Rattle.lists.proofs.Bools.{or_0, or_1, or_cases, clash, refuted}
use Rattle.lists.specs.Lists.{elem}

pub elem_here : (m : ℕ) (r : List ℕ) → elem m (m ∷ r) ≡ true
unfolding elem
elem_here m r = or_0 (eqb m m) (elem m r) (eq-eqb m m refl)

pub elem_there : (m n : ℕ) (r : List ℕ) → elem m r ≡ true → elem m (n ∷ r) ≡ true
unfolding elem
elem_there m n r h = or_1 (eqb m n) (elem m r) h

pub elem_cases : (m n : ℕ) (r : List ℕ) → elem m (n ∷ r) ≡ true → (m ≡ n) ⊎ (elem m r ≡ true)
unfolding elem
elem_cases m n r h = ⊎_elim (λ e. inl (eqb-true m n e)) inr (or_cases (eqb m n) h)

pub unlike_head : (m n : ℕ) (r : List ℕ) → elem m (n ∷ r) ≡ false → m ≡ n → ⊥
unfolding elem
unlike_head m n r e q = clash (or_0 (eqb m n) (elem m r) (eq-eqb m n q)) e

pub not_in_tail : (m n : ℕ) (r : List ℕ) → elem m (n ∷ r) ≡ false → elem m r ≡ false
not_in_tail m n r e = refuted (elem m r) (λ h. clash (elem_there m n r h) e)

pub elem_none : {X : Type 0} (m : ℕ) → elem m [] ≡ true → X
unfolding elem
elem_none m h = clash h refl
