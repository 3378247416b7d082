use native.Mathlib.Omega.{arith}
use mathlib.Core.Bool.{not}
use mathlib.Core.Path.{◌≡◌, sym, ap, ◌∙◌}
use Rattle.std.specs.Slice.Iter.{chunks_rest}
use Rattle.std.specs.Iterator.Adapters.{enumerate_source}
use Rattle.records.specs.Traces.{trace_records}
use Rattle.records.proofs.TraceRecords.{first_chunk}
use Rattle.witness.specs.Nodes.{tracks, is_last, family_of, is_rule}
use Rattle.witness.proofs.TraceParts.{ceil_count, last_told, last_plain}
use Rattle.witness.proofs.TrackLaws.{tracking_start, tracking_room, tracking_count, tracking_next, tracking_end}
use borrow.Author.Rules.{rules}
use Rattle.witness.proofs.follow_trace.Goals.{then-told, else-told}
use Rattle.witness.proofs.follow_trace.Goals as goal

pub loop-n-init : goal.loop-n-init
loop-n-init c = record { sized = search rules; tracked = tracking_start c.requires.0 (search rules) (search rules) }

pub follow_record-requires : goal.follow_record-requires
follow_record-requires c =
    let i = c.loop-n.invariant in
    let e = c.in-Some.ensures.steps in
    let room = tracking_room i.tracked (first_chunk i.sized e.0.1) c.requires.1 in
    (i.tracked.long_held, omega (arith, e.1, room))

pub loop-n-preserved : goal.loop-n-preserved
loop-n-preserved c =
    let i = c.loop-n.invariant in
    let e = c.in-Some.ensures.steps in
    let d = first_chunk i.sized e.0.1 in
    let f = c.follow_record.ensures in
    let last : c.if-told.last ≡ is_last (not (is_rule (family_of c.args.followed))) (trace_records (chunks_rest (enumerate_source c.next.new.self))) =
    elim c.if-told.branch [
      | then-told w ↦ w.last-is ∙ last_told c.args.trace.now _ (ap not (sym c.is_rule-told.ensures ∙ w.if-told.true))
          (tracking_count i.tracked d) e.1 (ceil_count c.args.trace.now c.div_ceil-count.ensures)
      | else-told w ↦ last_plain _ (ap not (sym c.is_rule-told.ensures ∙ w.if-told.false)) (w.last-is ∙ ap not c.is_rule-told.ensures)
    ] in
    record {
      sized = e.0.0 ∙ i.sized;
      tracked = tracking_next i.tracked d {t' = tracks c.follow_record.new.held c.follow_record.new.links} last e.1 e.2 f.1 f.0 (search rules) (search rules);
    }

pub returns : goal.returns
returns c = tracking_end c.loop-n.invariant.tracked c.in-None.ensures.steps.0.1.0
