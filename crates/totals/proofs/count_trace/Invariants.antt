-- `totals::count_trace`. Invariant: what is counted, and what is left of the trace, is the whole of it (`Totalling`).
use Rattle.std.proofs.Common.{◌≡◌}
use Rattle.std.specs.Slice.Iter.{chunks_rest, chunks_size}
use Rattle.records.specs.Records.{record_length}
use Rattle.totals.proofs.TotalLoop.{Totalling}
use Rattle.totals.proofs.count_trace.Given as goal

abbrev pub invariant-loop-bytes : goal.invariant-loop-bytes
invariant-loop-bytes l = record {
  can_next : goal.iterator-loop-bytes.can_next l.bytes-iterator;
  finite : goal.iterator-loop-bytes.is_finite l.bytes-iterator;
  size : chunks_size l.bytes-iterator ≡ record_length;
  totalling : Totalling l.initial.session l.trace l.session l.figures (chunks_rest l.bytes-iterator) l.records;
}
