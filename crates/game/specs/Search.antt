-- How the game is searched, for the contracts of private functions: behind the first turn the desk tries only moves that bring the
-- information to a holder that lacked it (proofs/Theorems, `desk_adds`), and these as one set.
use Rattle.std.specs.Prelude.{ℕ, ◌^◌, ◌≤◌, ◌<◌, ◌≡◌, Bool, false, not, cond, ◌&&◌, ◌||◌, List, eqb, ltb, length, get_or}
use Rattle.lists.specs.Counting.{some_below}
use Rattle.matrix.specs.Flows.{has}
use Rattle.matrix.specs.Rows.{bits_of}
use Rattle.game.specs.Limits.{side_limit, read_count, right_count}
use Rattle.game.specs.Positions.{subject_of, object_of, moved, reached}
use Rattle.game.specs.Games.{guard_loses}
use Rattle.game.specs.declared.Position.{Position}

-- the move of this right can be made, and the information comes to a holder that lacked it
unfoldable pub adds : Position → ℕ → Bool
adds p k =
    has p.rights k
    && cond (ltb k read_count)
    (has p.objects (object_of k) && not (has p.subjects (subject_of k)))
    (has p.subjects (subject_of k) && not (has p.objects (object_of k)))

-- it does so, and wins
unfoldable pub addition_wins : ℕ → ℕ → ℕ → Position → ℕ → Bool
addition_wins rounds b left p k = adds p k && (reached b (moved p k) || guard_loses rounds b left (moved p k))

-- these moves as one set
unfoldable pub additions : Position → ℕ
additions p = bits_of (adds p) right_count

-- the rights of a set of subjects to read object 0
unfoldable pub to_first_object : ℕ → ℕ
to_first_object subjects = bits_of (λ k. eqb (object_of k) 0 && has subjects (subject_of k)) read_count

-- the append to b
unfoldable pub appends_to : ℕ → ℕ → Bool
appends_to b k = not (ltb k read_count) && eqb (object_of k) b

-- a set of moves has one
unfoldable pub reaches_in : ℕ → ℕ → Bool
reaches_in b moves = some_below (λ k. has moves k && appends_to b k) right_count

-- what the search is given: a round, b among three objects, three subjects and objects, and b not reached
pub record Searched (rounds b : ℕ) (p : Position) : Type 0 where
  pub some : 1 ≤ rounds
  pub target : b < side_limit
  pub subjects : p.subjects < 2 ^ side_limit
  pub objects : p.objects < 2 ^ side_limit
  pub apart : reached b p ≡ false

-- what the rights are gathered from: rows for at most three subjects and objects
pub record Rows (reads writes : List ℕ) : Type 0 where
  pub even : length writes ≡ length reads
  pub few : length reads ≤ side_limit
  pub small_reads : (s : ℕ) → get_or reads s 0 < 2 ^ side_limit
  pub small_writes : (s : ℕ) → get_or writes s 0 < 2 ^ side_limit
