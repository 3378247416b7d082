-- Who can force the outcome: "The sides are judged by turns, each through the other's replies."
use Rattle.std.specs.Prelude.{ℕ, zero, suc, ◌-◌, ◌*◌, Bool, true, false, cond, ◌&&◌, ◌||◌, eqb}
use Rattle.lists.specs.Counting.{some_below, all_below}
use Rattle.game.specs.Limits.{right_count, move_count}
use Rattle.game.specs.Positions.{legal, moved, withdrawn, reached}
use Rattle.game.specs.declared.Position.{Position}

-- by turns left, b, the withdrawals that the guard has left, and the position
unfoldable mutual
  -- the desk to move: one of its moves reaches b, or wins through every reply
  pub desk_in : ℕ → ℕ → ℕ → Position → Bool
  desk_in zero b left p = false
  desk_in (suc f) b left p = some_below (λ k. legal p k && (reached b (moved p k) || guard_in f b left (moved p k))) move_count

  -- the guard to reply: the desk wins after the pass, and after each withdrawal that it can make
  pub guard_in : ℕ → ℕ → ℕ → Position → Bool
  guard_in zero b left p = false
  guard_in (suc f) b left p =
      desk_in f b left p && cond (eqb left 0) true (all_below (λ k. cond (legal p k) (desk_in f b (left - 1) (withdrawn p k)) true) right_count)

-- the desk to move with so many rounds left
unfoldable pub desk_wins : ℕ → ℕ → ℕ → Position → Bool
desk_wins rounds b left p = desk_in (2 * rounds) b left p

-- the guard to reply, in the first of so many rounds
unfoldable pub guard_loses : ℕ → ℕ → ℕ → Position → Bool
guard_loses rounds b left p = guard_in (2 * rounds - 1) b left p

-- the move of this number is one that the desk can make, and wins
unfoldable pub move_wins : ℕ → ℕ → ℕ → Position → ℕ → Bool
move_wins rounds b left p k = legal p k && (reached b (moved p k) || guard_loses rounds b left (moved p k))
