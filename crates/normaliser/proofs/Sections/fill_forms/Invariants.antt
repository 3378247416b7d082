-- The invariant: the words of the first k rules are written.
use Prim.Native.Nat.{◌*◌}
use Rattle.fields.proofs.RowWriting.{RowsWritten}
use Rattle.normaliser.specs.Writer.{form_width}
use Rattle.normaliser.proofs.FormRows.{word_rows}
use Rattle.normaliser.proofs.Sections.fill_forms.Given as goal

abbrev pub invariant-loop-k : goal.invariant-loop-k
invariant-loop-k l = RowsWritten (word_rows l.self.rules.records.now l.self.rules.mixtures.now) l.initial.forms 0 l.forms (l.k * form_width) l.k
