-- The answer where an image is to be written: a refusal, or its length. Other crates that write an image may cite this file.
use Prim.Native.Nat.{ℕ, zero, suc, ◌+◌, ◌≤◌, ◌<◌}
use mathlib.Core.Path.{◌≡◌, refl, sym, ◌∙◌}
use mathlib.Core.List.{List}
use mathlib.Core.Logic.{◌↔◌}
use native.Mathlib.Omega.{arith}
use lib.ListN.{length, take, drop}
use lib.Seq.{take_at}
use Rattle.fields.specs.Writing.{overwritten, Wrote}
use Rattle.image.specs.Limits.{header_size}
use Rattle.normaliser.specs.Normaliser.{length_unless, written_unless}

-- ---- the two cases

module _ (n : ℕ) (s out : List ℕ) (some : n ≡ 0 → ⊥) where
  pub refused_answer : length_unless n s ≡ n
  refused_answer = by n some
    where
      by : (k : ℕ) → (k ≡ 0 → ⊥) → length_unless k s ≡ k
      by zero d = absurd (d refl)
      by (suc k) d = unfold length_unless in refl

  pub refused_effect : written_unless n s out ≡ out
  refused_effect = by n some
    where
      by : (k : ℕ) → (k ≡ 0 → ⊥) → written_unless k s out ≡ out
      by zero d = absurd (d refl)
      by (suc k) d = unfold written_unless in refl

pub wrote_answer : {s out after : List ℕ} {n f : ℕ} → f ≡ 0 → Wrote s out after 0 n → (n ≡ length_unless f s) × (after ≡ written_unless f s out)
unfolding length_unless written_unless
wrote_answer {s} {out} e w = (w.ends ∙ sym (rw e (omega arith)), w.buffer ∙ sym (rw e))

-- ---- a length is no refusal number

pub through : {A B C : Type 0} → A ↔ B → B ↔ C → A ↔ C
through p q = ((λ a. q.0 (p.0 a)), (λ c. p.1 (q.1 c)))

module _ (s : List ℕ) (long : header_size ≤ length s) where
  -- a refusal number is given exactly if it is the refusal
  pub answer_number : (f n : ℕ) → 0 < n → n < header_size → (length_unless f s ≡ n) ↔ (f ≡ n)
  unfolding length_unless
  answer_number zero n p l = ((λ e. absurd (omega arith)), (λ e. absurd (omega arith)))
  answer_number (suc f) n p l = ((λ e. e), (λ e. e))

  -- at least the header's length exactly if nothing is refused
  pub answer_length : (f : ℕ) → f < header_size → (header_size ≤ length_unless f s) ↔ (f ≡ 0)
  unfolding length_unless
  answer_length zero l = ((λ e. refl), (λ e. long))
  answer_length (suc f) l = ((λ e. absurd (omega arith)), (λ e. absurd (omega arith)))

-- what stands at the front of the output
pub answer_front : (f : ℕ) (s out : List ℕ) → f ≡ 0 → take (length_unless f s) (written_unless f s out) ≡ s
unfolding length_unless written_unless overwritten
answer_front f s out e = rw e (take_at s (drop (0 + length s) out) (length s) refl)
