use mathlib.Core.Path.{ap, ◌∙◌}
use Rattle.game.specs.Outcomes.{outcome_of}
use Rattle.game.proofs.OutcomeLaws.{outcome_desk, outcome_guard}
use Rattle.game.proofs.FirstMoves.{first_found, first_none}
use Rattle.game.proofs.first_winning.Goals as goal

pub returns-then-move_wins : goal.returns-then-move_wins
returns-then-move_wins c =
    outcome_desk _ c.loop-k-test.true c.move_at.ensures
    ∙ ap outcome_of (first_found _ _ _ _ _ c.loop-k.invariant c.loop-k-test.true c.move_wins.ensures c.if-move_wins.true)

pub returns : goal.returns
returns c = outcome_guard ∙ ap outcome_of (first_none _ _ _ _ _ c.loop-k.invariant c.loop-k-test.false)
