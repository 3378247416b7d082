-- The subject that carries a flow. Other crates may cite this file.
use Prim.Native.Nat.{ℕ, zero, suc, ◌<◌}
use native.Mathlib.Omega.{arith}
use mathlib.Core.Path.{◌≡◌, refl}
use mathlib.Core.Logic.{◌⊎◌, inl, inr}
use mathlib.Core.Bool.{true, ◌&&◌}
use mathlib.Core.List.{List, [], ◌∷◌}
use lib.ListN.{length, get_or}
use Rattle.lists.proofs.Bools.{and_in, and_0, and_1, or_0, or_1, or_cases, clash}
use Rattle.matrix.specs.Flows.{has, subject_carries}

-- a subject that reads a and writes b carries
pub carries : (reads writes : List ℕ) (s a b : ℕ) → s < length reads → length writes ≡ length reads → has (get_or reads s 0) a ≡ true → has (get_or writes s 0) b ≡ true
    → subject_carries reads writes a b ≡ true
unfolding subject_carries
carries [] writes s a b l e r w = absurd (omega arith)
carries (x ∷ reads) [] s a b l e r w = absurd (omega arith)
carries (x ∷ reads) (y ∷ writes) zero a b l e r w = or_0 (has x a && has y b) (subject_carries reads writes a b) (and_in r w)
carries (x ∷ reads) (y ∷ writes) (suc s) a b l e r w =
    or_1 (has x a && has y b) (subject_carries reads writes a b) (carries reads writes s a b (omega arith) (omega arith) r w)

-- where one carries, there is such a subject
pub carried : (reads writes : List ℕ) (a b : ℕ) → length writes ≡ length reads → subject_carries reads writes a b ≡ true
    → (s : ℕ) × (s < length reads) × (has (get_or reads s 0) a ≡ true) × (has (get_or writes s 0) b ≡ true)
unfolding subject_carries
carried [] writes a b e h = clash h refl
carried (x ∷ reads) [] a b e h = clash h refl
carried (x ∷ reads) (y ∷ writes) a b e h = by (or_cases (has x a && has y b) h) (λ q. carried reads writes a b (omega arith) q)
  where
    by : (has x a && has y b ≡ true) ⊎ (subject_carries reads writes a b ≡ true)
        → (subject_carries reads writes a b ≡ true → (s : ℕ) × (s < length reads) × (has (get_or reads s 0) a ≡ true) × (has (get_or writes s 0) b ≡ true))
        → (s : ℕ) × (s < suc (length reads)) × (has (get_or (x ∷ reads) s 0) a ≡ true) × (has (get_or (y ∷ writes) s 0) b ≡ true)
    by (inl q) f = (zero, omega arith, and_0 (has x a) (has y b) q, and_1 (has x a) q)
    by (inr q) f = let z = f q in (suc z.0, omega (arith, z.1), z.2, z.3)
