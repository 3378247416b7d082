-- Invariant: the rights of the subjects before s.
use Rattle.game.proofs.RightSets.{Gathering}
use Rattle.game.proofs.rights_in.Given as goal

abbrev pub invariant-loop-s : goal.invariant-loop-s
invariant-loop-s l = Gathering l.reads l.writes l.rights l.s
