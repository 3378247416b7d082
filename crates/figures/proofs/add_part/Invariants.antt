-- `figures::add_part`. Invariant: what is counted, and what is left of the part, is the whole of it (`Counting`).
use Rattle.std.proofs.Common.{◌≡◌}
use Rattle.records.specs.Records.{record_length}
use Rattle.figures.specs.Counters.{counters}
use Rattle.figures.proofs.CountedParts.{Counting}
use Rattle.figures.proofs.add_part.Given as goal

abbrev pub invariant-loop-bytes : goal.invariant-loop-bytes
invariant-loop-bytes l =
    (l.bytes-iterator.size ≡ record_length)
    × Counting l.part (counters l.initial.records l.initial.counts l.initial.alerted) l.initial.session l.session (counters l.records l.counts l.alerted) l.bytes-iterator.rest.now
