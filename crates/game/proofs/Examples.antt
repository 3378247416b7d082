-- Games by computation. docs/FORMATS.md tells the third and fourth move by move.
use mathlib.Core.Path.{◌≡◌, refl}
use mathlib.Core.List.{[], ◌∷◌}
use Rattle.rules.specs.Sets.{atom}
use Rattle.lists.specs.Lists.{every}
use Rattle.lists.specs.Conditions.{first_failed}
use Rattle.lists.specs.Counting.{some_below, all_below, least_below}
use Rattle.answers.specs.Refusals.{matrix, game_bounds}
use Rattle.matrix.specs.Flows.{rows_within, count_good, matrix_good, has}
use Rattle.matrix.specs.Rows.{bit_at, bits_of}
use Rattle.game.specs.declared.Move.TheVariants.{Read}
use Rattle.game.specs.Positions.{subject_of, object_of, legal, with_subject, with_object, moved, withdrawn, reached}
use Rattle.game.specs.Games.{desk_in, guard_in, guard_loses, move_wins}
use Rattle.game.specs.Outcomes.{game_good, game_conditions, right_in, opening, move_at, first_winning, outcome_of, without_move, move_values, unless_refused, game_values}

-- one subject reads both objects and writes object 0: in two rounds object 1 must be read at once, in three the idle read of object 0 comes first.
-- Two subjects read object 1 and write object 0, and the guard may withdraw once: it holds the desk for two rounds, not for three.
pub games-played :
    (game_values (3 ∷ []) (1 ∷ []) 2 1 0 2 0 ≡ move_values (Read 0 1))
    × (game_values (3 ∷ []) (1 ∷ []) 2 1 0 3 0 ≡ move_values (Read 0 0))
    × (game_values (2 ∷ 2 ∷ []) (1 ∷ 1 ∷ []) 2 1 0 2 1 ≡ without_move 0)
    × (game_values (2 ∷ 2 ∷ []) (1 ∷ 1 ∷ []) 2 1 0 3 1 ≡ move_values (Read 0 1))
unfolding game_values unless_refused first_failed game_conditions game_good matrix_good rows_within every count_good has atom bit_at bits_of right_in
    opening move_at first_winning outcome_of least_below some_below all_below subject_of object_of legal with_subject with_object moved withdrawn
    reached desk_in guard_in guard_loses move_wins
games-played = (refl, refl, refl, refl)

-- a malformed matrix is 8 though a = b; four subjects are a matrix and no game
pub malformed_first : game_values (2 ∷ []) (1 ∷ []) 1 0 0 1 0 ≡ without_move matrix
unfolding game_values unless_refused first_failed game_conditions matrix_good rows_within every count_good
malformed_first = refl

pub four_subjects : game_values (1 ∷ 1 ∷ 1 ∷ 1 ∷ []) (1 ∷ 1 ∷ 1 ∷ 1 ∷ []) 2 1 0 1 0 ≡ without_move game_bounds
unfolding game_values unless_refused first_failed game_conditions game_good matrix_good rows_within every count_good
four_subjects = refl
