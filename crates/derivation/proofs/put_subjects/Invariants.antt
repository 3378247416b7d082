-- The invariant: after so many turns, as many subjects are written.
use lib.ListN.{replicate}
use Rattle.fields.proofs.RowWriting.{RowsWritten}
use Rattle.derivation.specs.Derived.{subject_process}
use Rattle.derivation.proofs.ContainerRows.{container_rows}
use Rattle.derivation.proofs.put_subjects.Given as goal

abbrev pub invariant-loop : goal.invariant-loop
invariant-loop l = RowsWritten (container_rows (replicate l.n subject_process)) l.initial.out l.start l.out l.at l.counter
