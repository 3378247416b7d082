-- `figures::put_too_long`. A field and byte 10, one behind the other.
use Rattle.std.proofs.Common.{◌<◌, ◌≤◌, length, arith}
use Rattle.answers.specs.Refusals.{trace_length}
use Rattle.listing.specs.Lines.{newline}
use Rattle.fields.proofs.WritingLaws.{wrote_join, wrote_byte}
use Rattle.listing.proofs.ListingLines.{field_length}
use Rattle.figures.proofs.put_too_long.Goals as goal

pub bounds-out-end : goal.bounds-out-end
bounds-out-end c = omega (arith, field_length trace_length, c.put_field-end.ensures.ends)

pub overflow_add-result : goal.overflow_add-result
overflow_add-result c = omega (arith, field_length trace_length, c.put_field-end.ensures.ends)

pub returns : goal.returns
returns c =
    let a = c.args in
    let p = c.put_field-end in
    let h : a.at ≤ length a.out.now = omega arith in
    let l : p.result < length p.new.out = omega (arith, field_length trace_length, p.ensures.ends) in
    wrote_join h p.ensures (wrote_byte newline p.result p.new.out l)
