-- The invariant: the atoms of the last bytes, as many as the loop has come by.
use lib.ListN.{length}
use Rattle.composition.proofs.ConsentLoops.{Summing}
use Rattle.composition.proofs.consent_set.Given as goal

abbrev pub invariant-loop-b : goal.invariant-loop-b
invariant-loop-b l = Summing l.consent l.atoms (length l.yielded)
