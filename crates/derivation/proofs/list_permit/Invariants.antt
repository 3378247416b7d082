-- The invariant: the mixtures of the first s subjects that write the object stand behind the count.
use Rattle.derivation.proofs.PermitWords.{PermitListed}
use Rattle.derivation.proofs.list_permit.Given as goal

abbrev pub invariant-loop-s : goal.invariant-loop-s
invariant-loop-s l = PermitListed l.rights.reads.now l.rights.writes.now l.b l.words l.count l.s
