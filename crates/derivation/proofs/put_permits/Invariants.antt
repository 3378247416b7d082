-- The invariant: the words of the first b permit rules are written, and the rest are still 0.
use Prim.Native.Nat.{◌*◌}
use Rattle.fields.proofs.RowWriting.{RowsWritten}
use Rattle.normaliser.specs.Writer.{form_width}
use Rattle.derivation.proofs.PermitWords.{permit_rows}
use Rattle.derivation.proofs.put_permits.Given as goal

abbrev pub invariant-loop-b : goal.invariant-loop-b
invariant-loop-b l = RowsWritten (permit_rows l.rights.reads.now l.rights.writes.now l.n) l.initial.words 0 l.words (l.b * form_width) l.b
