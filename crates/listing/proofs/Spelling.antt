-- The loop that writes a number's digits from the last to the first.
use Prim.Native.Nat.{ℕ, suc, ◌+◌, ◌-◌, ◌/◌, ◌%◌, ◌≤◌, ◌<◌}
use native.Mathlib.Omega.{arith}
use mathlib.Core.Path.{◌≡◌, refl, sym, ap, ◌∙◌}
use mathlib.Core.List.{List}
use lib.ListN.{length, set, length-set}
use Rattle.listing.specs.Text.{digit, digits}
use Rattle.fields.specs.Writing.{overwritten, Wrote}
use Rattle.listing.proofs.NumberTexts.{digits_length}
use Rattle.fields.proofs.WritingLaws.{overwritten_none, overwritten_back}

-- of the k digits of n in base b, i are still to be written: those of `rest`
pub record Spelling (b k n at : ℕ) (before after : List ℕ) (i rest : ℕ) : Type 0 where
  pub few : i ≤ k
  pub room : at + k ≤ length before
  pub long : length after ≡ length before
  pub left : overwritten (digits b i rest) at after ≡ overwritten (digits b k n) at before

pub spelling_start : (b k n at : ℕ) (before : List ℕ) → at + k ≤ length before → Spelling b k n at before before k n
spelling_start b k n at before h = record { few = omega arith; room = h; long = refl; left = refl }

pub spelling_next : {b k n at : ℕ} {before after : List ℕ} {i rest : ℕ} → Spelling b k n at before after i rest → (d : ℕ) → 0 < i → d ≡ digit (rest % b)
    → Spelling b k n at before (set after (at + (i - 1)) d) (i - 1) (rest / b)
unfolding digits
spelling_next {b} {k} {n} {at} {before} {after} {i} {rest} s d h e =
    let x : List ℕ = digits b (i - 1) (rest / b) in
    let q : i ≡ suc (i - 1) = omega arith in
    let m : length x ≡ i - 1 = digits_length b (i - 1) (rest / b) in
    let r : at + length x < length after = omega (arith, s.few, s.room, s.long) in
    record {
      few = omega (arith, s.few);
      room = s.room;
      long = length-set after (at + (i - 1)) d ∙ s.long;
      left =
          ap (λ (v : ℕ). overwritten x at (set after (at + (i - 1)) v)) e
          ∙ ap (λ (j : ℕ). overwritten x at (set after (at + j) (digit (rest % b)))) (sym m)
          ∙ overwritten_back x (digit (rest % b)) at after r
          ∙ ap (λ (j : ℕ). overwritten (digits b j rest) at after) (sym q)
          ∙ s.left;
    }

pub spelling_end : {b k n at : ℕ} {before after : List ℕ} {i rest : ℕ} → Spelling b k n at before after i rest → i ≡ 0
    → Wrote (digits b k n) before after at (at + k)
unfolding digits
spelling_end {b} {k} {n} {at} {before} {after} {i} {rest} s e =
    record {
      buffer = sym (overwritten_none at after) ∙ ap (λ (j : ℕ). overwritten (digits b j rest) at after) (sym e) ∙ s.left;
      ends = ap (λ (j : ℕ). at + j) (sym (digits_length b k n));
    }
