-- Invariant: no move before k wins.
use Rattle.lists.proofs.Below.{Failing}
use Rattle.game.specs.Limits.{move_count}
use Rattle.game.specs.Games.{move_wins}
use Rattle.game.proofs.first_winning.Given as goal

abbrev pub invariant-loop-k : goal.invariant-loop-k
invariant-loop-k l = Failing (move_wins l.rounds l.b l.left l.p) move_count l.k
