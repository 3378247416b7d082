-- The bytes passed are in the sum.
use Rattle.profiles.proofs.NoteLaws.{Summed}
use Rattle.profiles.proofs.notes.path_hash.Given as goal

abbrev pub invariant-loop-b : goal.invariant-loop-b
invariant-loop-b l = Summed l.path l.b-index l.sum
