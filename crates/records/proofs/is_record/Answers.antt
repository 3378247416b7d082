-- `records::is_record`. Other lengths are none; else the number that the bytes spell decides.
use mathlib.Core.Path.{sym, ap, ◌∙◌}
use Rattle.records.specs.Records.{record_good}
use Rattle.records.proofs.RecordLaws.{record_short}
use Rattle.records.proofs.is_record.Goals as goal

pub returns-then-bytes-ne-RECORD_LENGTH : goal.returns-then-bytes-ne-RECORD_LENGTH
returns-then-bytes-ne-RECORD_LENGTH c = sym (record_short c.args.bytes.now c.if-bytes-ne-RECORD_LENGTH.true)

pub returns : goal.returns
returns c = c.is_record_word.ensures ∙ ap record_good c.word_of.ensures
