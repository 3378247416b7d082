-- `trace_listing::list_records`. The invariant: what is written, and what is left of the part, is the whole of it (`Listing`).
use mathlib.Core.Path.{◌≡◌}
use Rattle.records.specs.Records.{record_length}
use Rattle.trace_listing.proofs.ListedParts.{Listing}
use Rattle.trace_listing.proofs.list_records.Given as goal

abbrev pub invariant-loop-bytes : goal.invariant-loop-bytes
invariant-loop-bytes l =
    (l.bytes-iterator.size ≡ record_length) × Listing l.part l.initial.run.tally l.initial.session l.initial.out l.session l.out l.run l.bytes-iterator.rest.now
