-- The invariant: the first i users are written.
use Rattle.fields.proofs.RowWriting.{RowsWritten}
use Rattle.composition.proofs.RecordLoops.{user_rows}
use Rattle.composition.proofs.put_users.Given as goal

abbrev pub invariant-loop-i : goal.invariant-loop-i
invariant-loop-i l = RowsWritten (user_rows l.from l.n) l.initial.out 0 l.out l.at l.i
