-- The invariant: the first i containers are written with their new rule numbers.
use Rattle.fields.proofs.RowWriting.{RowsWritten}
use Rattle.normaliser.proofs.SectionRows.{container_rows}
use Rattle.normaliser.proofs.Numbering.write_containers.Given as goal

abbrev pub invariant-loop-i : goal.invariant-loop-i
invariant-loop-i l = RowsWritten (container_rows l.containers l.self.classes.now l.self.ranks.now) l.initial.out l.start l.out l.at l.i
