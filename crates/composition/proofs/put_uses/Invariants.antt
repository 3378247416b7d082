-- The invariant: the rows of the first k uses, each of which fits.
use Rattle.composition.specs.Tables.{pair_uses}
use Rattle.composition.proofs.RowLoop.{Rowing}
use Rattle.composition.proofs.put_uses.Given as goal

abbrev pub invariant-loop-k : goal.invariant-loop-k
invariant-loop-k l = Rowing (pair_uses l.consent l.first.bytes.now l.second.bytes.now) l.count l.forms l.k
