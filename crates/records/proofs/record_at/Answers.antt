-- `records::record_at`. Eight bytes are left, or fewer.
use Rattle.records.proofs.TraceRecords.{short_record, whole_record}
use Rattle.records.proofs.record_at.Goals as goal

pub returns-then-trace-at-lt-RECORD_LENGTH : goal.returns-then-trace-at-lt-RECORD_LENGTH
returns-then-trace-at-lt-RECORD_LENGTH c = short_record c.args.trace.now c.args.at c.if-trace-at-lt-RECORD_LENGTH.true

pub returns : goal.returns
returns c = whole_record c.args.trace.now c.args.at
