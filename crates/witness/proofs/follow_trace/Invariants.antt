-- Invariant: what is followed, and what is left of the trace, is the whole of it (`Tracking`).
use mathlib.Core.Bool.{not}
use mathlib.Core.Path.{◌≡◌}
use Rattle.std.specs.Slice.Iter.{chunks_rest, chunks_size}
use Rattle.std.specs.Iterator.Adapters.{enumerate_source, enumerate_count}
use Rattle.records.specs.Records.{record_length}
use Rattle.witness.specs.Nodes.{tracks, family_of, is_rule}
use Rattle.witness.proofs.TrackLaws.{Tracking}
use Rattle.witness.proofs.follow_trace.Given as goal

abbrev pub invariant-loop-n : goal.invariant-loop-n
invariant-loop-n l =
    record {
      sized : chunks_size (enumerate_source l.n-iterator) ≡ record_length;
      tracked : Tracking (is_rule (family_of l.followed)) (not (is_rule (family_of l.followed))) l.trace
          (tracks l.initial.held l.initial.links) l.initial.session l.session (tracks l.held l.links) (enumerate_count l.n-iterator)
          (chunks_rest (enumerate_source l.n-iterator));
    }
