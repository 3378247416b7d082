-- Who can force the outcome, as strategies: the moves of one side, one for each thing that the other may do.
use Rattle.std.specs.Prelude.{ℕ, zero, suc, ◌-◌, ◌<◌, ◌≡◌, true, false}
use Rattle.game.specs.Limits.{right_count, move_count}
use Rattle.game.specs.Positions.{legal, moved, withdrawn, reached}
use Rattle.game.specs.declared.Position.{Position}

-- by rounds left, withdrawals left and position
mutual
  -- a move after which the desk wins
  pub data DeskForces (b : ℕ) : ℕ → ℕ → Position → Type 0 where
    moving : {r l : ℕ} {p : Position} (k : ℕ) → k < move_count → legal p k ≡ true → Through b r l (moved p k) → DeskForces b (suc r) l p

  -- after a move: b is reached, or it goes on so whether the guard passes or withdraws a right
  pub data Through (b : ℕ) : ℕ → ℕ → Position → Type 0 where
    reaching : {r l : ℕ} {p : Position} → reached b p ≡ true → Through b r l p
    onward : {r l : ℕ} {p : Position} → DeskForces b r l p
        → ((j : ℕ) → j < right_count → legal p j ≡ true → 0 < l → DeskForces b r (l - 1) (withdrawn p j)) → Through b r l p

mutual
  -- no round is left, or the guard has a reply to each move
  pub data GuardForces (b : ℕ) : ℕ → ℕ → Position → Type 0 where
    ended : {l : ℕ} {p : Position} → GuardForces b zero l p
    replying : {r l : ℕ} {p : Position} → ((k : ℕ) → k < move_count → legal p k ≡ true → Reply b r l (moved p k)) → GuardForces b (suc r) l p

  -- after a move: b is not reached, and it goes on so after the pass, or after the withdrawal of a right that stands
  pub data Reply (b : ℕ) : ℕ → ℕ → Position → Type 0 where
    passing : {r l : ℕ} {p : Position} → reached b p ≡ false → GuardForces b r l p → Reply b r l p
    withdrawing : {r l : ℕ} {p : Position} → reached b p ≡ false → 0 < l → (j : ℕ) → j < right_count → legal p j ≡ true
        → GuardForces b r (l - 1) (withdrawn p j) → Reply b r l p

-- "its first winning move", where r rounds are left after it: it can be made, the desk wins through every reply to it, and to each move before
-- it that can be made the guard has one
pub record FirstWinning (b r l : ℕ) (p : Position) (k : ℕ) : Type 0 where
  pub legally : legal p k ≡ true
  pub through : Through b r l (moved p k)
  pub before : (j : ℕ) → j < k → legal p j ≡ true → Reply b r l (moved p j)
