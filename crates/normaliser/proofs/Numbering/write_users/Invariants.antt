-- The invariant: the first i users are written with their new numbers.
use Rattle.fields.proofs.RowWriting.{RowsWritten}
use Rattle.normaliser.proofs.SectionRows.{user_rows}
use Rattle.normaliser.proofs.Numbering.write_users.Given as goal

abbrev pub invariant-loop-i : goal.invariant-loop-i
invariant-loop-i l = RowsWritten (user_rows l.users l.self.classes.now l.self.ranks.now) l.initial.out l.start l.out l.at l.i
