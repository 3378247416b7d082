-- `trace_listing::put_record`. A whole record has the line of a step (`whole_line`), any other that of a short one (`short_line_lem`).
use Rattle.trace_listing.proofs.ListedParts.{whole_line, short_line_lem}
use Rattle.trace_listing.proofs.put_record.Goals as goal

pub returns-then-bytes-ne-RECORD_LENGTH : goal.returns-then-bytes-ne-RECORD_LENGTH
returns-then-bytes-ne-RECORD_LENGTH c = short_line_lem _ _ _ c.if-bytes-ne-RECORD_LENGTH.true c.put_short.ensures

pub returns : goal.returns
returns c = whole_line _ _ _ _ c.if-bytes-ne-RECORD_LENGTH.false c.request_of-q.ensures c.put_step.ensures
