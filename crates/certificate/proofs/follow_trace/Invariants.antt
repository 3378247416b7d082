-- What is followed, and what is left of the trace, is the whole of it (`Following`).
use mathlib.Core.Path.{◌≡◌}
use Rattle.std.specs.Slice.Iter.{chunks_rest, chunks_size}
use Rattle.std.specs.Iterator.Adapters.{enumerate_source, enumerate_count}
use Rattle.records.specs.Records.{record_length}
use Rattle.certificate.proofs.FollowedMarks.{Following}
use Rattle.certificate.proofs.follow_trace.Given as goal

abbrev pub invariant-loop-n : goal.invariant-loop-n
invariant-loop-n l =
    record {
      sized : chunks_size (enumerate_source l.n-iterator) ≡ record_length;
      following : Following l.trace l.initial.marks l.initial.session l.session l.marks l.answer (enumerate_count l.n-iterator) (chunks_rest (enumerate_source l.n-iterator));
    }
