-- A turn of each side, by rounds.
use mathlib.Core.Path.{◌≡◌, refl, sym, ap, ◌∙◌}
use mathlib.Core.Bool.{Bool, true, false, cond, ◌&&◌}
use Prim.Native.Nat.{ℕ, suc, ◌-◌, ◌*◌, ◌<◌, ◌≤◌}
use native.Mathlib.Omega.{arith}
use lib.Dec.{eqb}
use borrow.Author.Tests.{eq-eqb, ne_eqb}
use Rattle.lists.specs.Counting.{some_below, all_below}
use Rattle.lists.proofs.Below.{Passing, passing_fails, passing_end}
use Rattle.game.specs.declared.Position.{Position}
use Rattle.game.specs.Limits.{right_count, move_count}
use Rattle.game.specs.Positions.{legal, withdrawn}
use Rattle.game.specs.Games.{desk_in, guard_in, desk_wins, guard_loses, move_wins}

-- ---- a turn

pub desk_over : (b l : ℕ) (p : Position) → desk_wins 0 b l p ≡ false
unfolding desk_wins desk_in
desk_over b l p = refl

-- the last round is over with the desk's move
pub guard_over : (r b l : ℕ) (p : Position) → r ≡ 1 → guard_loses r b l p ≡ false
unfolding guard_loses guard_in desk_in
guard_over r b l p h = rw h

pub desk_turn : (r b l : ℕ) (p : Position) → 1 ≤ r → desk_wins r b l p ≡ some_below (move_wins r b l p) move_count
unfolding desk_wins guard_loses desk_in move_wins
desk_turn r b l p h = let e : 2 * r ≡ suc (2 * r - 1) = omega arith in ap (λ (k : ℕ). desk_in k b l p) e

-- the desk wins after the withdrawal of this number, if the guard can make it
unfoldable pub reply_loses : ℕ → ℕ → ℕ → Position → ℕ → Bool
reply_loses rounds b left p k = cond (legal p k) (desk_wins (rounds - 1) b (left - 1) (withdrawn p k)) true

pub guard_turn : (r b l : ℕ) (p : Position) → 1 ≤ r
    → guard_loses r b l p ≡ (desk_wins (r - 1) b l p && cond (eqb l 0) true (all_below (reply_loses r b l p) right_count))
unfolding desk_wins guard_loses guard_in reply_loses
guard_turn r b l p h = let e : 2 * r - 1 ≡ suc (2 * (r - 1)) = omega arith in ap (λ (k : ℕ). guard_in k b l p) e

-- ---- the guard's loop over its withdrawals

module _ (r b l : ℕ) (p : Position) where
  pub reply_barred : (k : ℕ) {x : Bool} → x ≡ legal p k → x ≡ false → reply_loses r b l p k ≡ true
  unfolding reply_loses
  reply_barred k {x} e h = let z : legal p k ≡ false = sym e ∙ h in rw z

  pub reply_judged : (k : ℕ) {x d : Bool} {q : Position} → x ≡ legal p k → x ≡ true → q ≡ withdrawn p k → d ≡ desk_wins (r - 1) b (l - 1) q
      → reply_loses r b l p k ≡ d
  unfolding reply_loses
  reply_judged k {x} {d} {q} e h m j =
      let z : legal p k ≡ true = sym e ∙ h in
      let v : desk_wins (r - 1) b (l - 1) (withdrawn p k) ≡ d = ap (desk_wins (r - 1) b (l - 1)) (sym m) ∙ sym j in
      rw (z, v)

  module _ (n : 1 ≤ r) where
    -- the guard passes
    pub guard_passes : desk_wins (r - 1) b l p ≡ false → false ≡ guard_loses r b l p
    guard_passes h = sym (guard_turn r b l p n ∙ rw h)

    -- it has no withdrawal left
    pub guard_spent : desk_wins (r - 1) b l p ≡ true → l ≡ 0 → true ≡ guard_loses r b l p
    guard_spent h z = sym (guard_turn r b l p n ∙ rw (h, eq-eqb l 0 z))

    pub guard_found : (k : ℕ) → desk_wins (r - 1) b l p ≡ true → (l ≡ 0 → ⊥) → k < right_count → reply_loses r b l p k ≡ false → false ≡ guard_loses r b l p
    guard_found k h z i e = sym (guard_turn r b l p n ∙ rw (h, ne_eqb l 0 z, ← passing_fails (reply_loses r b l p) right_count k i e))

    pub guard_none : (k : ℕ) → desk_wins (r - 1) b l p ≡ true → (l ≡ 0 → ⊥) → Passing (reply_loses r b l p) right_count k → right_count ≤ k → true ≡ guard_loses r b l p
    guard_none k h z i e = sym (guard_turn r b l p n ∙ rw (h, ne_eqb l 0 z, ← passing_end (reply_loses r b l p) right_count k i e))
