-- The invariant: the first i containers are written.
use Rattle.fields.proofs.RowWriting.{RowsWritten}
use Rattle.composition.proofs.RecordLoops.{own_rows}
use Rattle.composition.proofs.put_places.Given as goal

abbrev pub invariant-loop-i : goal.invariant-loop-i
invariant-loop-i l = RowsWritten (own_rows l.containers) l.initial.out 0 l.out l.at l.i
