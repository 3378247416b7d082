-- `confinement::put_files`. The invariant: the files so far are written (`RowsWritten`).
use Rattle.fields.proofs.RowWriting.{RowsWritten}
use Rattle.confinement.proofs.PathRuleRows.{file_rows}
use Rattle.confinement.proofs.put_files.Given as goal

abbrev pub invariant-loop-k : goal.invariant-loop-k
invariant-loop-k l = RowsWritten (file_rows l.n) l.initial.out 0 l.out l.at l.k
