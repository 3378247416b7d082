-- Each answer by the tests before it; a game that is not refused, by its first winning move.
use Rattle.std.proofs.Common.{refl, inl, inr}
use Rattle.lists.proofs.Bools.{passes_test, fails_test}
use Rattle.game.proofs.OutcomeLaws.{refused_matrix, refused_game, play_rows, play_source, play_searched, play_outcome}
use Rattle.game.proofs.play.Goals as goal

pub returns-then-not-matrix_good : goal.returns-then-not-matrix_good
returns-then-not-matrix_good c = (refused_matrix _ _ _ _ _ _ _ (fails_test c.matrix_good.ensures c.if-not-matrix_good.true-raw), inl refl)

pub returns-then-not-game_good : goal.returns-then-not-game_good
returns-then-not-game_good c =
    (refused_game _ _ _ _ _ _ _ (passes_test c.matrix_good.ensures c.if-not-matrix_good.false-raw) (fails_test c.game_good.ensures c.if-not-game_good.true-raw), inr refl)

pub rights_in-requires : goal.rights_in-requires
rights_in-requires c =
    play_rows _ _ _ _ _ _ _ (passes_test c.matrix_good.ensures c.if-not-matrix_good.false-raw) (passes_test c.game_good.ensures c.if-not-game_good.false-raw)

pub overflow_shl-p : goal.overflow_shl-p
overflow_shl-p c =
    play_source _ _ _ _ _ _ _ (passes_test c.matrix_good.ensures c.if-not-matrix_good.false-raw) (passes_test c.game_good.ensures c.if-not-game_good.false-raw)

pub first_winning-requires : goal.first_winning-requires
first_winning-requires c =
    play_searched _ _ _ _ _ _ _ (passes_test c.matrix_good.ensures c.if-not-matrix_good.false-raw) (passes_test c.game_good.ensures c.if-not-game_good.false-raw) _ c.rights_in.ensures

pub returns : goal.returns
returns c = (
  play_outcome _ _ _ _ _ _ _ (passes_test c.matrix_good.ensures c.if-not-matrix_good.false-raw) (passes_test c.game_good.ensures c.if-not-game_good.false-raw)
      _ c.rights_in.ensures c.first_winning.ensures,
  tt,
)
