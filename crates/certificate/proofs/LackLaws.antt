-- A mixture that does not hold all of a tag lacks an atom of it, and the least one is told.
use Prim.Native.Nat.{ℕ, ◌≤◌, ◌<◌}
use native.Mathlib.Omega.{arith}
use native.Mathlib.Decide.{ℕ_discrete}
use mathlib.Core.Path.{◌≡◌}
use mathlib.Core.Bool.{true, false}
use mathlib.Core.List.{List}
use lib.Dec.{eqb}
use borrow.Author.Tests.{eqb-true, eq-eqb}
use Rattle.lists.specs.Lists.{elem}
use Rattle.lists.specs.Counting.{some_below}
use Rattle.lists.proofs.Bools.{and_in, and_0, and_1, clash, decide, refuted}
use Rattle.lists.proofs.Below.{Least, some_at, least_some}
use Rattle.rules.specs.Sets.{atom, holds}
use Rattle.rules.specs.Rules.{covers}
use Rattle.rules.specs.Answers.{tag_width}
use Rattle.rules.proofs.SetLaws.{atom_le, atoms_holds}
use Rattle.rules.proofs.RuleLaws.{covers_by}
use Rattle.certificate.specs.Origins.{lacks_at, lacked_by}
use mathlib.Core.Logic.{◌⊎◌, inl, inr}

-- a tag of 64 atoms
abbrev pub Wide : ℕ → Type 0
Wide t = (k : ℕ) → atom t k ≡ 1 → k < tag_width

lacks_in : (t m k : ℕ) → atom t k ≡ 1 → atom m k ≡ 0 → lacks_at t m k ≡ true
unfolding lacks_at
lacks_in t m k a b = and_in (eq-eqb (atom t k) 1 a) (eq-eqb (atom m k) 0 b)

pub lacks_out : (t m k : ℕ) → lacks_at t m k ≡ true → (atom t k ≡ 1) × (atom m k ≡ 0)
unfolding lacks_at
lacks_out t m k h = (eqb-true (atom t k) 1 (and_0 (eqb (atom t k) 1) (eqb (atom m k) 0) h), eqb-true (atom m k) 0 (and_1 (eqb (atom t k) 1) h))

module _ (t m : ℕ) (wide : Wide t) (h : holds m t ≡ false) where
  some_lacked : some_below (lacks_at t m) tag_width ≡ true
  some_lacked = on (decide (some_below (lacks_at t m) tag_width))
    where
      held : some_below (lacks_at t m) tag_width ≡ false → (k : ℕ) → Dec (atom t k ≡ 1) → Dec (atom m k ≡ 0) → atom t k ≤ atom m k
      held e k (yes a) (yes z) = clash (some_at (lacks_at t m) tag_width k (wide k a) (lacks_in t m k a z)) e
      held e k (yes a) (no z) = omega (arith, atom_le m k)
      held e k (no a) d = omega (arith, atom_le t k)

      on : (some_below (lacks_at t m) tag_width ≡ true) ⊎ (some_below (lacks_at t m) tag_width ≡ false) → some_below (lacks_at t m) tag_width ≡ true
      on (inl e) = e
      on (inr e) = clash (atoms_holds m t (λ k. held e k (ℕ_discrete (atom t k) 1) (ℕ_discrete (atom m k) 0))) h

  pub lacked_least : Least (lacks_at t m) tag_width (lacked_by t m)
  unfolding lacked_by
  lacked_least = least_some (lacks_at t m) tag_width some_lacked

  pub lacked_out : (atom t (lacked_by t m) ≡ 1) × (atom m (lacked_by t m) ≡ 0)
  lacked_out = lacks_out t m (lacked_by t m) lacked_least.passes

-- no mixture of a rule holds a tag that the rule does not cover
pub uncovered_held : (r : List ℕ) (t m : ℕ) → covers r t ≡ false → elem m r ≡ true → holds m t ≡ false
uncovered_held r t m u e = refuted (holds m t) (λ h. clash (covers_by m r t e h) u)
