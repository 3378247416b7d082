-- `figures::put_rate`. No accepted step, no rate (`rate_none`); else two fields, one behind the other (`rate_some`).
use Rattle.std.proofs.Common.{◌*◌, ◌/◌, ◌≤◌, length, arith}
use Rattle.fields.specs.Ascii.{ascii}
use Rattle.listing.proofs.ListingLines.{field_length}
use Rattle.figures.proofs.FigureLines.{rate_none, rate_some}
use Rattle.figures.proofs.put_rate.Goals as goal

pub returns-then-accepted-eq0 : goal.returns-then-accepted-eq0
unfolding ascii
returns-then-accepted-eq0 c = rate_none _ _ c.if-accepted-eq0.true c.put_text.ensures

pub put_field-requires : goal.put_field-requires
put_field-requires c =
    let put_field = c.put_field-next in
    let a = c.args in
    omega (arith, field_length (1000 * a.alerts / a.accepted), put_field.ensures.ends)

pub returns : goal.returns
returns c =
    let if1 = c.if-accepted-eq0 in
    let put_field = c.put_field-next in
    let a = c.args in
    let h : a.at ≤ length a.out.now = omega arith in
    rate_some a.alerts a.accepted h if1.false put_field.ensures c.put_field.ensures
