-- The moves of a game (change request No. 14) as steps on the policy that is derived from its matrix (the paper, "Matrix"): object o is
-- container o, subject s the container behind the objects.
use Rattle.std.specs.Prelude.{ℕ, ◌+◌, ◌≡◌, Bool, true, cond, ◌||◌, List, [], ◌∷◌, ltb, leb}
use Rattle.lists.specs.Lists.{every}
use Rattle.chains.specs.History.{History, ◌▸◌, read, append}
use Rattle.game.specs.declared.Position.{Position}
use Rattle.game.specs.Limits.{read_count, right_count}
use Rattle.game.specs.Positions.{subject_of, object_of, moved}
use Rattle.game.specs.Outcomes.{right_in}

-- a move has a right of the matrix, or is the pass
unfoldable pub allowed_move : List ℕ → List ℕ → ℕ → Bool
allowed_move reads writes k = leb right_count k || right_in reads writes k

abbrev pub AllowedMoves : List ℕ → List ℕ → List ℕ → Type 0
AllowedMoves reads writes ks = every (allowed_move reads writes) ks ≡ true

-- the history with a move more; the pass is no step
unfoldable pub with_move : ℕ → History → ℕ → History
with_move objects h k =
    cond (ltb k read_count)
    (h ▸ read (objects + subject_of k) (object_of k))
    (cond (ltb k right_count) (h ▸ append (objects + subject_of k) (object_of k)) h)

-- after these moves, from first to last
unfoldable pub history_after : ℕ → History → List ℕ → History
history_after objects h [] = h
history_after objects h (k ∷ ks) = history_after objects (with_move objects h k) ks

unfoldable pub position_after : Position → List ℕ → Position
position_after p [] = p
position_after p (k ∷ ks) = position_after (moved p k) ks
