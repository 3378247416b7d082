-- The invariant: the first b objects are written.
use Rattle.fields.proofs.RowWriting.{RowsWritten}
use Rattle.derivation.proofs.ContainerRows.{container_rows, object_files}
use Rattle.derivation.proofs.put_objects.Given as goal

abbrev pub invariant-loop-b : goal.invariant-loop-b
invariant-loop-b l = RowsWritten (container_rows (object_files l.n)) l.initial.out l.start l.out l.at l.b
