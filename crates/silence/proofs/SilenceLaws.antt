-- The answer from its parts, and each of its numbers.
use Prim.Native.Nat.{ℕ}
use mathlib.Core.Path.{◌≡◌, refl}
use mathlib.Core.Bool.{Bool, true, false}
use Rattle.std.proofs.Common.{Ok}
use mathlib.Core.Logic.{◌⊎◌, inl, inr, ◌↔◌}
use mathlib.Core.List.{List, [], ◌∷◌}
use native.Mathlib.Omega.{arith}
use Rattle.lists.specs.Lists.{elem}
use Rattle.lists.proofs.Bools.{decide}
use Rattle.answers.specs.Refusals.{matrix}
use Rattle.matrix.specs.Flows.{matrix_good}
use Rattle.matrix.proofs.Theorems.{refused_8, refused_none}
use Rattle.silence.specs.Silent.{silent, silence_number, silence_of, unless_refused, matrix_silence}

module _ (reads writes : List ℕ) (n : ℕ) where
  pub silence_refused : matrix_good reads writes n ≡ false → matrix_silence reads writes n ≡ matrix
  unfolding matrix_silence unless_refused
  silence_refused g = rw ((refused_8 reads writes n).1 g)

  pub judged : matrix_good reads writes n ≡ true → (b : Bool) → silent reads writes n ≡ b → matrix_silence reads writes n ≡ silence_number (Ok b)
  unfolding matrix_silence unless_refused silence_of
  judged g b e = rw ((refused_none reads writes n).1 g, e)

  pub silence_silent : matrix_good reads writes n ≡ true → silent reads writes n ≡ true → matrix_silence reads writes n ≡ 1
  silence_silent g e = judged g true e

  pub silence_not : matrix_good reads writes n ≡ true → silent reads writes n ≡ false → matrix_silence reads writes n ≡ 0
  silence_not g e = judged g false e

  -- ---- each number exactly

  abbrev pub Cases : Type 0
  Cases =
      ((matrix_good reads writes n ≡ false) × (matrix_silence reads writes n ≡ matrix))
      ⊎ (((matrix_good reads writes n ≡ true) × (silent reads writes n ≡ true) × (matrix_silence reads writes n ≡ 1))
      ⊎ ((matrix_good reads writes n ≡ true) × (silent reads writes n ≡ false) × (matrix_silence reads writes n ≡ 0)))

  cases : Cases
  cases = by (decide (matrix_good reads writes n)) (decide (silent reads writes n))
    where
      by : (matrix_good reads writes n ≡ true) ⊎ (matrix_good reads writes n ≡ false) → (silent reads writes n ≡ true) ⊎ (silent reads writes n ≡ false) → Cases
      by (inr g) s = inl (g, silence_refused g)
      by (inl g) (inl e) = inr (inl (g, e, silence_silent g e))
      by (inl g) (inr e) = inr (inr (g, e, silence_not g e))

  pub silence_8 : (matrix_silence reads writes n ≡ matrix) ↔ (matrix_good reads writes n ≡ false)
  silence_8 = ((λ h. by cases h), silence_refused)
    where
      by : Cases → matrix_silence reads writes n ≡ matrix → matrix_good reads writes n ≡ false
      by (inl (g, e)) h = g
      by (inr (inl (g, s, e))) h = absurd (omega (arith, e, h))
      by (inr (inr (g, s, e))) h = absurd (omega (arith, e, h))

  pub silence_1 : (matrix_silence reads writes n ≡ 1) ↔ ((matrix_good reads writes n ≡ true) × (silent reads writes n ≡ true))
  silence_1 = ((λ h. by cases h), λ h. silence_silent h.0 h.1)
    where
      by : Cases → matrix_silence reads writes n ≡ 1 → (matrix_good reads writes n ≡ true) × (silent reads writes n ≡ true)
      by (inl (g, e)) h = absurd (omega (arith, e, h))
      by (inr (inl (g, s, e))) h = (g, s)
      by (inr (inr (g, s, e))) h = absurd (omega (arith, e, h))

  pub silence_0 : (matrix_silence reads writes n ≡ 0) ↔ ((matrix_good reads writes n ≡ true) × (silent reads writes n ≡ false))
  silence_0 = ((λ h. by cases h), λ h. silence_not h.0 h.1)
    where
      by : Cases → matrix_silence reads writes n ≡ 0 → (matrix_good reads writes n ≡ true) × (silent reads writes n ≡ false)
      by (inl (g, e)) h = absurd (omega (arith, e, h))
      by (inr (inl (g, s, e))) h = absurd (omega (arith, e, h))
      by (inr (inr (g, s, e))) h = (g, s)

  pub silence_among : elem (matrix_silence reads writes n) (0 ∷ 1 ∷ matrix ∷ []) ≡ true
  silence_among = by cases
    where
      by : Cases → elem (matrix_silence reads writes n) (0 ∷ 1 ∷ matrix ∷ []) ≡ true
      by (inl (g, e)) = rw e (unfold elem in refl)
      by (inr (inl (g, s, e))) = rw e (unfold elem in refl)
      by (inr (inr (g, s, e))) = rw e (unfold elem in refl)
