-- `operations::perform_record`. What `perform` ensures of the request that the record's bytes ask for.
use native.Mathlib.Omega.{arith}
use Rattle.records.proofs.RecordLaws.{record_long}
use Rattle.operations.proofs.PerformLaws.{asked_whole, named, performed_record}
use Rattle.operations.proofs.perform_record.Goals as goal

pub slice_bounds-request_of-end : goal.slice_bounds-request_of-end
slice_bounds-request_of-end c = omega (arith, record_long _ c.requires.1)

pub code_at-need-requires : goal.code_at-need-requires
code_at-need-requires c =
    let n = named c.args.s.now c.args.bytes.now c.requires.0 c.requires.1 _ (asked_whole _ c.requires.1 _ c.request_of-q.ensures) in
    (n.asked.code_low, n.asked.code_high)

pub perform-requires : goal.perform-requires
perform-requires c =
    (named _ _ c.requires.0 c.requires.1 _ (asked_whole _ c.requires.1 _ c.request_of-q.ensures), c.code_at-need.ensures)

pub returns : goal.returns
returns c = performed_record _ _ _ (asked_whole _ c.requires.1 _ c.request_of-q.ensures) _ _ c.perform.ensures
