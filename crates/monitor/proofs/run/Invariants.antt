-- `monitor::run`. The invariant: the records that are left come to what the whole trace comes to (`Running`), and the position is a byte.
use Prim.Native.Nat.{◌<◌}
use mathlib.Core.Path.{◌≡◌}
use Rattle.std.specs.Slice.Iter.{chunks_rest, chunks_size}
use Rattle.records.specs.Records.{record_length}
use Rattle.monitor.proofs.StopLoop.{Running}
use Rattle.monitor.proofs.run.Given as goal

abbrev pub invariant-loop-bytes : goal.invariant-loop-bytes
invariant-loop-bytes l = record {
  can_next : goal.iterator-loop-bytes.can_next l.bytes-iterator;
  finite : goal.iterator-loop-bytes.is_finite l.bytes-iterator;
  size : chunks_size l.bytes-iterator ≡ record_length;
  running : Running l.initial.session l.trace l.session (chunks_rest l.bytes-iterator) l.taken;
  small : l.position < 256;
}
