-- The desk's turn as code makes it: a move that reaches b first, then the others that add a holder.
use mathlib.Core.Path.{◌≡◌, refl, sym, ap, ◌∙◌}
use mathlib.Core.Bool.{Bool, true, false, not, ◌&&◌}
use mathlib.Core.Logic.{◌⊎◌, inl, inr}
use Prim.Native.Nat.{ℕ, ◌^◌, ◌<◌, ◌≤◌}
use native.Mathlib.Decide.{dec_lt}
use native.Mathlib.Omega.{arith}
use lib.Dec.{eqb, ltb}
use borrow.Author.Tests.{le-ltb, ltb-false, not-true}
use Rattle.lists.specs.Counting.{least_below}
use Rattle.lists.proofs.Bools.{decide, and_0, and_1, or_1}
use Rattle.lists.proofs.Below.{some_at, some_none, none_at, Least, least_some, Failing, failing_end}
use Rattle.matrix.specs.Flows.{has}
use Rattle.matrix.proofs.RowBits.{has_or, has_single}
use Rattle.game.specs.declared.Position.{Position}
use Rattle.game.specs.Limits.{read_count, right_count}
use Rattle.game.specs.Positions.{moved, reached, subject_of, object_of, with_subject, with_object}
use Rattle.game.specs.Games.{desk_wins, guard_loses}
use Rattle.game.specs.Search.{adds, addition_wins, additions, appends_to, reaches_in, Searched}
use Rattle.game.proofs.GamePositions.{read_moves, append_moves, moved_searched}
use Rattle.game.proofs.MoveSetLaws.{in_set}
use Rattle.game.proofs.Turns.{guard_over}
use Rattle.game.proofs.IdleLaws.{desk_adds}

-- ---- which moves reach b

read_apart : (b : ℕ) (p : Position) (s : ℕ) → reached b p ≡ false → reached b (with_subject p s) ≡ false
unfolding reached with_subject
read_apart b p s n = n

append_apart : (b : ℕ) (p : Position) (k : ℕ) → read_count ≤ k → reached b p ≡ false → appends_to b k ≡ false → reached b (with_object p (object_of k)) ≡ false
unfolding reached with_object appends_to
append_apart b p k i n e =
    let z : eqb (object_of k) b ≡ false = rw (le-ltb k read_count i) at e in
    has_or p.objects (2 ^ object_of k) b ∙ rw (n, has_single (object_of k) b, z)

-- a move that adds no holder is none to try
pub addition_barred : (r b l : ℕ) (p : Position) (k : ℕ) → adds p k ≡ false → addition_wins r b l p k ≡ false
unfolding addition_wins
addition_barred r b l p k h = rw h

module _ (b : ℕ) (p : Position) (k : ℕ) (l : k < right_count) (h : adds p k ≡ true) where
  -- an append to b does
  append_reaches : appends_to b k ≡ true → reached b (moved p k) ≡ true
  unfolding appends_to reached with_object
  append_reaches e =
      let m : read_count ≤ k = ltb-false k read_count (not-true (ltb k read_count) (and_0 (not (ltb k read_count)) (eqb (object_of k) b) e)) in
      let z : moved p k ≡ with_object p (object_of k) = append_moves p k m l h in
      rw z (has_or p.objects (2 ^ object_of k) b ∙ or_1 (has p.objects b) (has (2 ^ object_of k) b) (has_single (object_of k) b ∙ and_1 (not (ltb k read_count)) e))

  -- and no other move
  pub other_apart : reached b p ≡ false → appends_to b k ≡ false → reached b (moved p k) ≡ false
  other_apart n e = by (dec_lt k read_count)
    where
      by : Dec (k < read_count) → reached b (moved p k) ≡ false
      by (yes m) = ap (reached b) (read_moves p k m h) ∙ read_apart b p (subject_of k) n
      by (no m) = let i : read_count ≤ k = omega arith in ap (reached b) (append_moves p k i l h) ∙ append_apart b p k i n e

-- ---- the set of moves has one that reaches b, or none

module _ (r b l : ℕ) (p : Position) (z : Searched r b p) {moves : ℕ} (e : moves ≡ additions p) where
  pub set_reaches : {x : Bool} → x ≡ reaches_in b moves → x ≡ true → true ≡ desk_wins r b l p
  unfolding reaches_in addition_wins
  set_reaches {x} f h = at (least_below (λ k. has moves k && appends_to b k) right_count) (least_some (λ k. has moves k && appends_to b k) right_count (sym f ∙ h))
    where
      at : (k : ℕ) → Least (λ k. has moves k && appends_to b k) right_count k → true ≡ desk_wins r b l p
      at k w =
          sym
          (desk_adds r b l p z.apart z.some
          ∙ some_at (addition_wins r b l p) right_count k w.below
          (wins (sym (in_set p k e w.below) ∙ and_0 (has moves k) (appends_to b k) w.passes)))
        where
          wins : adds p k ≡ true → addition_wins r b l p k ≡ true
          wins h =
              let q : reached b (moved p k) ≡ true = append_reaches b p k w.below h (and_1 (has moves k) w.passes) in
              rw (h, q)

  module _ {x : Bool} (f : x ≡ reaches_in b moves) (h : x ≡ false) where
    pub set_apart : (k : ℕ) → k < right_count → adds p k ≡ true → reached b (moved p k) ≡ false
    unfolding reaches_in
    set_apart k m g = other_apart b p k m g z.apart (by (none_at (λ k. has moves k && appends_to b k) right_count k (sym f ∙ h) m))
      where
        by : (has moves k && appends_to b k) ≡ false → appends_to b k ≡ false
        by q = let i : has moves k ≡ true = in_set p k e m ∙ g in rw i at q

    pub set_searched : (k : ℕ) → k < right_count → adds p k ≡ true → {q : Position} → q ≡ moved p k → Searched r b q
    set_searched k m g {q} s = rw s (moved_searched r b p k m g z (set_apart k m g))

    -- a move that adds a holder is judged by the guard's replies
    pub addition_judged : (k : ℕ) → k < right_count → adds p k ≡ true → {q : Position} {y : Bool} → q ≡ moved p k → y ≡ guard_loses r b l q → addition_wins r b l p k ≡ y
    unfolding addition_wins
    addition_judged k m g {q} {y} s j =
        let v : guard_loses r b l (moved p k) ≡ y = ap (guard_loses r b l) (sym s) ∙ sym j in
        rw (g, set_apart k m g, v)

    -- in the last round none wins
    pub last_round : r ≡ 1 → false ≡ desk_wins r b l p
    last_round o = sym (desk_adds r b l p z.apart z.some ∙ some_none (addition_wins r b l p) right_count (λ k m. by k m (decide (adds p k))))
      where
        by : (k : ℕ) → k < right_count → (adds p k ≡ true) ⊎ (adds p k ≡ false) → addition_wins r b l p k ≡ false
        by k m (inl g) = addition_judged k m g refl (sym (guard_over r b l (moved p k) o))
        by k m (inr g) = addition_barred r b l p k g

-- ---- the loop over the others

module _ (r b l : ℕ) (p : Position) (z : Searched r b p) where
  pub desk_found : (k : ℕ) → k < right_count → addition_wins r b l p k ≡ true → true ≡ desk_wins r b l p
  desk_found k i h = sym (desk_adds r b l p z.apart z.some ∙ some_at (addition_wins r b l p) right_count k i h)

  pub desk_none : (k : ℕ) → Failing (addition_wins r b l p) right_count k → right_count ≤ k → false ≡ desk_wins r b l p
  desk_none k i h = sym (desk_adds r b l p z.apart z.some ∙ failing_end (addition_wins r b l p) right_count k i h)
