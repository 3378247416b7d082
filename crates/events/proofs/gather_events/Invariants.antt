-- `events::gather_events`. Invariant: what is left, behind what was gathered, comes to the whole (`Gathering`).
use mathlib.Core.Path.{◌≡◌}
use Rattle.std.specs.Slice.Iter.{chunks_rest, chunks_size}
use Rattle.records.specs.Records.{record_length}
use Rattle.events.proofs.GatherLoop.{Gathering}
use Rattle.events.proofs.gather_events.Given as goal

abbrev pub invariant-loop-bytes : goal.invariant-loop-bytes
invariant-loop-bytes l = record {
  can_next : goal.iterator-loop-bytes.can_next l.bytes-iterator;
  finite : goal.iterator-loop-bytes.is_finite l.bytes-iterator;
  size : chunks_size l.bytes-iterator ≡ record_length;
  gathering : Gathering l.initial.session l.trace l.initial.events l.session l.events (chunks_rest l.bytes-iterator) l.room l.taken l.written;
}
