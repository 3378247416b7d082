-- `trace_listing::list_record`. The step's number is one more than the records before it.
use Rattle.trace_listing.proofs.list_record.Goals as goal

pub returns : goal.returns
returns c = record {
  line = rw c.more-step.ensures at c.put_record-end.ensures;
  counts = c.count.ensures;
}
