-- The judgement by turns says who has a strategy.
use mathlib.Core.Path.{◌≡◌, refl, sym, ap, ◌∙◌}
use mathlib.Core.Bool.{Bool, true, false, cond, ◌||◌, ◌&&◌}
use mathlib.Core.Logic.{◌⊎◌, inl, inr, ◌↔◌}
use Prim.Native.Nat.{ℕ, zero, suc, ◌-◌, ◌<◌, ◌≤◌}
use native.Mathlib.Decide.{ℕ_discrete}
use native.Mathlib.Omega.{arith}
use lib.Dec.{eqb}
use borrow.Author.Tests.{eq-eqb, ne_eqb}
use Rattle.lists.specs.Counting.{least_below, all_below}
use Rattle.lists.proofs.Bools.{decide, and_0, and_1, or_cases, clash, refuted}
use Rattle.lists.proofs.Below.{none_at, Least, least_some, all_at, Miss, all_miss}
use Rattle.game.specs.declared.Position.{Position}
use Rattle.game.specs.Limits.{right_count, move_count}
use Rattle.game.specs.Positions.{legal, moved, withdrawn, reached}
use Rattle.game.specs.Games.{desk_wins, guard_loses, move_wins}
use Rattle.game.specs.Strategies.{DeskForces, moving, Through, reaching, onward, GuardForces, ended, replying, Reply, passing, withdrawing}
use Rattle.game.proofs.Turns.{reply_loses, desk_over, desk_turn, guard_turn, reply_barred}

-- ---- a turn of suc r rounds

some_round : (r : ℕ) → 1 ≤ suc r
some_round r = omega arith

less_one : (r : ℕ) → suc r - 1 ≡ r
less_one r = omega arith

guard_next : (r b l : ℕ) (p : Position) → guard_loses (suc r) b l p ≡ (desk_wins r b l p && cond (eqb l 0) true (all_below (reply_loses (suc r) b l p) right_count))
guard_next r b l p =
    guard_turn (suc r) b l p (some_round r)
    ∙ ap (λ (x : ℕ). desk_wins x b l p && cond (eqb l 0) true (all_below (reply_loses (suc r) b l p) right_count)) (less_one r)

reply_next : (r b l : ℕ) (p : Position) (k : ℕ) → legal p k ≡ true → reply_loses (suc r) b l p k ≡ desk_wins r b (l - 1) (withdrawn p k)
unfolding reply_loses
reply_next r b l p k h = rw (h, less_one r)

-- ---- the desk

move_parts : (r b l : ℕ) (p : Position) (k : ℕ) → move_wins r b l p k ≡ true → (legal p k ≡ true) × ((reached b (moved p k) || guard_loses r b l (moved p k)) ≡ true)
unfolding move_wins
move_parts r b l p k h = (and_0 (legal p k) (reached b (moved p k) || guard_loses r b l (moved p k)) h, and_1 (legal p k) h)

-- after a move that wins, given a strategy wherever the desk then wins
module _ (r b : ℕ) (ih : (l : ℕ) (q : Position) → desk_wins r b l q ≡ true → DeskForces b r l q) where
  replied : (l : ℕ) (q : Position) → guard_loses (suc r) b l q ≡ true → Through b r l q
  replied l q h =
      onward (ih l q (and_0 (desk_wins r b l q) (cond (eqb l 0) true (all_below (reply_loses (suc r) b l q) right_count)) z))
      (λ j m g w. ih (l - 1) (withdrawn q j) (each (and_1 (desk_wins r b l q) z) j m g w))
    where
      z : (desk_wins r b l q && cond (eqb l 0) true (all_below (reply_loses (suc r) b l q) right_count)) ≡ true
      z = sym (guard_next r b l q) ∙ h

      each : cond (eqb l 0) true (all_below (reply_loses (suc r) b l q) right_count) ≡ true → (j : ℕ) → j < right_count → legal q j ≡ true → 0 < l
          → desk_wins r b (l - 1) (withdrawn q j) ≡ true
      each z j m g w =
          let n : eqb l 0 ≡ false = ne_eqb l 0 (λ e. omega arith) in
          let y : all_below (reply_loses (suc r) b l q) right_count ≡ true = rw n at z in
          sym (reply_next r b l q j g) ∙ all_at (reply_loses (suc r) b l q) right_count j y m

  through : (l : ℕ) (p : Position) (k : ℕ) → move_wins (suc r) b l p k ≡ true → Through b r l (moved p k)
  through l p k h = by (or_cases (reached b (moved p k)) (move_parts (suc r) b l p k h).1)
    where
      by : (reached b (moved p k) ≡ true) ⊎ (guard_loses (suc r) b l (moved p k) ≡ true) → Through b r l (moved p k)
      by (inl e) = reaching e
      by (inr e) = replied l (moved p k) e

  -- a move that wins, as a strategy
  forcing : (l : ℕ) (p : Position) (k : ℕ) → k < move_count → move_wins (suc r) b l p k ≡ true → DeskForces b (suc r) l p
  forcing l p k m h = moving k m (move_parts (suc r) b l p k h).0 (through l p k h)

desk_strategy : (r b l : ℕ) (p : Position) → desk_wins r b l p ≡ true → DeskForces b r l p
desk_strategy zero b l p h = clash h (desk_over b l p)
desk_strategy (suc r) b l p h =
    at (least_below (move_wins (suc r) b l p) move_count)
    (least_some (move_wins (suc r) b l p) move_count (sym (desk_turn (suc r) b l p (some_round r)) ∙ h))
    (λ m q e. desk_strategy r b m q e)
  where
    at : (k : ℕ) → Least (move_wins (suc r) b l p) move_count k → ((m : ℕ) (q : Position) → desk_wins r b m q ≡ true → DeskForces b r m q) → DeskForces b (suc r) l p
    at k w ih = forcing r b ih l p k w.below w.passes

-- ---- the guard

-- the reply to a move that does not win, given a strategy wherever the desk then does not win
module _ (r b : ℕ) (ih : (l : ℕ) (q : Position) → desk_wins r b l q ≡ false → GuardForces b r l q) where
  held : (l : ℕ) (q : Position) → reached b q ≡ false → guard_loses (suc r) b l q ≡ false → Reply b r l q
  held l q n h = by (decide (desk_wins r b l q)) (ℕ_discrete l 0)
    where
      z : (desk_wins r b l q && cond (eqb l 0) true (all_below (reply_loses (suc r) b l q) right_count)) ≡ false
      z = sym (guard_next r b l q) ∙ h

      found : 0 < l → Miss (reply_loses (suc r) b l q) right_count → Reply b r l q
      found w m = on (decide (legal q m.place))
        where
          on : (legal q m.place ≡ true) ⊎ (legal q m.place ≡ false) → Reply b r l q
          on (inl g) = withdrawing n w m.place m.below g (ih (l - 1) (withdrawn q m.place) (sym (reply_next r b l q m.place g) ∙ m.fails))
          on (inr g) = clash (reply_barred (suc r) b l q m.place refl g) m.fails

      by : (desk_wins r b l q ≡ true) ⊎ (desk_wins r b l q ≡ false) → Dec (l ≡ 0) → Reply b r l q
      by (inr d) w = passing n (ih l q d)
      by (inl d) (yes e) = let y : true ≡ false = rw (d, eq-eqb l 0 e) at z in clash refl y
      by (inl d) (no e) =
          let y : all_below (reply_loses (suc r) b l q) right_count ≡ false = rw (d, ne_eqb l 0 e) at z in
          found (omega arith) (all_miss (reply_loses (suc r) b l q) right_count y)

  replies : (l : ℕ) (p : Position) (k : ℕ) → legal p k ≡ true → move_wins (suc r) b l p k ≡ false → Reply b r l (moved p k)
  unfolding move_wins
  replies l p k g h = by (reached b (moved p k)) refl (rw g at h)
    where
      by : (x : Bool) → reached b (moved p k) ≡ x → (x || guard_loses (suc r) b l (moved p k)) ≡ false → Reply b r l (moved p k)
      by false e z = held l (moved p k) e z
      by true e z = clash refl z

guard_strategy : (r b l : ℕ) (p : Position) → desk_wins r b l p ≡ false → GuardForces b r l p
guard_strategy zero b l p h = ended
guard_strategy (suc r) b l p h = replying (λ k m g. reply k m g (λ m q e. guard_strategy r b m q e))
  where
    reply : (k : ℕ) → k < move_count → legal p k ≡ true → ((m : ℕ) (q : Position) → desk_wins r b m q ≡ false → GuardForces b r m q) → Reply b r l (moved p k)
    reply k m g ih = replies r b ih l p k g (none_at (move_wins (suc r) b l p) move_count k (sym (desk_turn (suc r) b l p (some_round r)) ∙ h) m)

-- ---- never both

reply_apart : {b r l : ℕ} {q : Position} → Reply b r l q → reached b q ≡ false
reply_apart (passing n x) = n
reply_apart (withdrawing n w j i y x) = n

-- no move has both, where no position has
through_reply : (b r : ℕ) → ((l : ℕ) (p : Position) → DeskForces b r l p → GuardForces b r l p → ⊥) → (l : ℕ) (q : Position) → Through b r l q → Reply b r l q → ⊥
through_reply b r ih l q (reaching e) y = clash e (reply_apart y)
through_reply b r ih l q (onward d ds) (passing n x) = ih l q d x
through_reply b r ih l q (onward d ds) (withdrawing n w j i y x) = ih (l - 1) (withdrawn q j) (ds j i y w) x

-- without a round left the desk has none
pub none_left : (b l : ℕ) (p : Position) → DeskForces b zero l p → ⊥
none_left b l p = elim [ ]

pub not_both : (b r l : ℕ) (p : Position) → DeskForces b r l p → GuardForces b r l p → ⊥
not_both b zero l p d g = none_left b l p d
not_both b (suc r) l p (moving k m g t) (replying f) = through_reply b r (λ l p. not_both b r l p) l (moved p k) t (f k m g)

pub not_through : (b r l : ℕ) (q : Position) → Through b r l q → Reply b r l q → ⊥
not_through b r l q = through_reply b r (not_both b r) l q

-- ---- each side exactly

pub desk_forces : (r b l : ℕ) (p : Position) → (desk_wins r b l p ≡ true) ↔ DeskForces b r l p
desk_forces r b l p = (desk_strategy r b l p, λ d. by d (decide (desk_wins r b l p)))
  where
    by : DeskForces b r l p → (desk_wins r b l p ≡ true) ⊎ (desk_wins r b l p ≡ false) → desk_wins r b l p ≡ true
    by d (inl h) = h
    by d (inr h) = absurd (not_both b r l p d (guard_strategy r b l p h))

pub guard_forces : (r b l : ℕ) (p : Position) → (desk_wins r b l p ≡ false) ↔ GuardForces b r l p
guard_forces r b l p = (guard_strategy r b l p, λ g. refuted (desk_wins r b l p) (λ h. not_both b r l p (desk_strategy r b l p h) g))

-- a move of the desk: it wins exactly if it can be made and the desk wins through every reply to it
module _ (r b l : ℕ) (p : Position) (k : ℕ) where
  pub move_forces : (move_wins (suc r) b l p k ≡ true) ↔ ((legal p k ≡ true) × Through b r l (moved p k))
  move_forces = (λ h. ((move_parts (suc r) b l p k h).0, through r b (desk_strategy r b) l p k h), λ h. by h (decide (move_wins (suc r) b l p k)))
    where
      by : (legal p k ≡ true) × Through b r l (moved p k) → (move_wins (suc r) b l p k ≡ true) ⊎ (move_wins (suc r) b l p k ≡ false) → move_wins (suc r) b l p k ≡ true
      by h (inl e) = e
      by h (inr e) = absurd (not_through b r l (moved p k) h.1 (replies r b (guard_strategy r b) l p k h.0 e))

  -- and one that can be made and does not win has a reply
  pub move_held : legal p k ≡ true → move_wins (suc r) b l p k ≡ false → Reply b r l (moved p k)
  move_held g h = replies r b (guard_strategy r b) l p k g h
