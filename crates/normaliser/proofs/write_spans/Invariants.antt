-- The invariant: the first rule records are written, and `first` is the number of their mixtures.
use Rattle.normaliser.proofs.RuleRows.{SpansWritten}
use Rattle.normaliser.proofs.write_spans.Given as goal

abbrev pub invariant-loop-k : goal.invariant-loop-k
invariant-loop-k l = SpansWritten l.forms l.order l.initial.out l.start l.out l.at l.first l.k-index
