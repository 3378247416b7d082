-- The invariant: those of the first i mixtures that enter stand behind the first n.
use Rattle.composition.proofs.EnteringLoop.{Gathering}
use Rattle.composition.proofs.list_entering.Given as goal

abbrev pub invariant-loop-m : goal.invariant-loop-m
invariant-loop-m l = Gathering l.consent l.other l.rule l.initial.list l.list l.n l.at l.m-index
