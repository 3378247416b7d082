-- The answer to a game: what it is refused for, who can force the outcome, and the desk's first winning move (change request No. 14).
use Rattle.std.specs.Prelude.{ℕ, zero, suc, ◌^◌, Bool, not, cond, ◌&&◌, ◌≡◌, ◌⊎◌, List, [], ◌∷◌, eqb, ltb, leb, length, Option, None, Some, Result, Ok, Err, IfErr}
use Rattle.lists.specs.Counting.{least_below}
use Rattle.lists.specs.Conditions.{Condition, ◌or_refuse◌, first_failed}
use Rattle.answers.specs.Refusals.{matrix, game_bounds}
use Rattle.answers.specs.declared.Refusal.{Refusal}
use Rattle.answers.specs.declared.Refusal.TheVariants as V
use Rattle.answers.specs.Outcomes.{refusal_number}
use Rattle.matrix.specs.Flows.{matrix_good, count_good}
use Rattle.matrix.specs.Rows.{bit_at, bits_of}
use Rattle.game.specs.Limits.{side_limit, read_count, right_count, move_count, round_limit, withdrawal_limit}
use Rattle.game.specs.Positions.{subject_of, object_of}
use Rattle.game.specs.Games.{move_wins}
use Rattle.game.specs.declared.Position.{Position}
use Rattle.game.specs.declared.Move.{Move}
use Rattle.game.specs.declared.Move.TheVariants.{Read, Append, Pass}
use Rattle.game.specs.declared.OutcomeValues.{OutcomeValues}

-- ---- what a game is refused for

-- "23 when a = b, either is no object, or a count is outside these bounds"
unfoldable pub game_good : ℕ → ℕ → ℕ → ℕ → ℕ → ℕ → Bool
game_good subjects objects a b rounds withdrawals =
    leb subjects side_limit
    && (leb objects side_limit
    && (ltb a objects && (ltb b objects && (not (eqb a b) && (count_good round_limit rounds && leb withdrawals withdrawal_limit)))))

-- "placed after 8"
unfoldable pub game_conditions : List ℕ → List ℕ → ℕ → ℕ → ℕ → ℕ → ℕ → List Condition
game_conditions reads writes objects a b rounds withdrawals =
    (matrix_good reads writes objects or_refuse matrix)
    ∷ (game_good (length reads) objects a b rounds withdrawals or_refuse game_bounds)
    ∷ []

-- ---- the first position

-- the right of this number in a matrix
unfoldable pub right_in : List ℕ → List ℕ → ℕ → Bool
right_in reads writes k = cond (ltb k read_count) (bit_at reads (subject_of k) (object_of k)) (bit_at writes (subject_of k) (object_of k))

-- every right of the matrix stands, and a alone holds its information
unfoldable pub opening : List ℕ → List ℕ → ℕ → Position
opening reads writes a = record { rights = bits_of (right_in reads writes) right_count; subjects = 0; objects = 2 ^ a }

-- ---- the outcome

-- "reads before appends before the pass, each by smallest subject, then object"
unfoldable pub move_at : ℕ → Move
move_at k = cond (ltb k read_count) (Read (subject_of k) (object_of k)) (cond (ltb k right_count) (Append (subject_of k) (object_of k)) Pass)

-- "its first winning move", by its number; that of no move if none wins
unfoldable pub first_winning : ℕ → ℕ → ℕ → Position → ℕ
first_winning rounds b left p = least_below (move_wins rounds b left p) move_count

-- "who can force the outcome and, where the desk can, its first winning move"
unfoldable pub outcome_of : ℕ → Option Move
outcome_of first = cond (ltb first move_count) (Some (move_at first)) None

-- ---- the outcome in numbers: 1 the desk, 0 the guard, or the refusal; then the move, 1 read, 3 append, 0 pass, its subject and its object

-- "zeros elsewhere"
abbrev pub without_move : ℕ → OutcomeValues
without_move number = record { number = number; code = 0; subject = 0; object = 0 }

abbrev pub move_values : Move → OutcomeValues
move_values (Read subject object) = record { number = 1; code = 1; subject = subject; object = object }
move_values (Append subject object) = record { number = 1; code = 3; subject = subject; object = object }
move_values Pass = without_move 1

-- the numbers of each case of the answer
abbrev pub outcome_values : Result (Option Move) Refusal → OutcomeValues
outcome_values (Err refusal) = without_move (refusal_number refusal)
outcome_values (Ok None) = without_move 0
outcome_values (Ok (Some first)) = move_values first

-- an answer that is an error only by one of the two conditions
abbrev pub Answered : Result (Option Move) Refusal → Type 0
Answered answer = IfErr answer (λ refusal. (refusal ≡ V.Matrix) ⊎ (refusal ≡ V.GameBounds))

-- a refusal, or the values
unfoldable pub unless_refused : ℕ → OutcomeValues → OutcomeValues
unless_refused zero v = v
unless_refused (suc n) v = without_move (suc n)

unfoldable pub game_values : List ℕ → List ℕ → ℕ → ℕ → ℕ → ℕ → ℕ → OutcomeValues
game_values reads writes objects a b rounds withdrawals =
    unless_refused (first_failed (game_conditions reads writes objects a b rounds withdrawals))
    (outcome_values (Ok (outcome_of (first_winning rounds b withdrawals (opening reads writes a)))))
