-- The invariant: no rule before j has the words of rule k.
use Rattle.normaliser.proofs.FirstEqual.{Seeking}
use Rattle.normaliser.proofs.first_same.Given as goal

abbrev pub invariant-loop-j : goal.invariant-loop-j
invariant-loop-j l = Seeking l.forms l.k l.j
