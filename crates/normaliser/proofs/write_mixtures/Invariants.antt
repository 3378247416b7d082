-- The invariant: the mixtures of the first rules in order are written.
use Rattle.fields.proofs.RowWriting.{RowsWritten}
use Rattle.normaliser.proofs.RuleRows.{mixture_rows}
use Rattle.normaliser.proofs.write_mixtures.Given as goal

abbrev pub invariant-loop-k : goal.invariant-loop-k
invariant-loop-k l = RowsWritten (mixture_rows l.forms l.order) l.initial.out l.start l.out l.at l.k-index
