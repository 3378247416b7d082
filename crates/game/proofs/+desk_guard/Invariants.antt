-- `game::desk` and `game::guard` call each other: the rounds fall, then whose turn it is.
-- Invariants: no move before k wins; no withdrawal before k saves the guard.
use Prim.Native.Nat.{◌+◌, ◌*◌}
use Rattle.lists.proofs.Below.{Failing, Passing}
use Rattle.game.specs.Limits.{right_count}
use Rattle.game.specs.Search.{addition_wins}
use Rattle.game.proofs.Turns.{reply_loses}
use Rattle.game.proofs.+desk_guard.Given as goal

abbrev pub decreases-desk : goal.decreases-desk
decreases-desk l = 2 * l.rounds + 1

abbrev pub decreases-guard : goal.decreases-guard
decreases-guard l = 2 * l.rounds

abbrev pub invariant-desk-loop-k : goal.invariant-desk-loop-k
invariant-desk-loop-k l = Failing (addition_wins l.rounds l.b l.left l.p) right_count l.k

abbrev pub invariant-guard-loop-k : goal.invariant-guard-loop-k
invariant-guard-loop-k l = Passing (reply_loses l.rounds l.b l.left l.p) right_count l.k
