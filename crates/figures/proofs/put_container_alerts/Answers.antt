-- `figures::put_container_alerts`. No alert, no field (`container_none`); else two fields, one behind the other (`container_some`).
use Rattle.std.proofs.Common.{◌≤◌, length, arith}
use Rattle.listing.proofs.ListingLines.{field_length}
use Rattle.figures.proofs.FigureLines.{container_none, container_some}
use Rattle.figures.proofs.put_container_alerts.Goals as goal

pub returns-then-alerts-eq0 : goal.returns-then-alerts-eq0
returns-then-alerts-eq0 c = container_none _ _ _ _ c.if-alerts-eq0.true

pub put_count-requires : goal.put_count-requires
put_count-requires c = let a = c.args in omega (arith, field_length a.c, c.put_field-next.ensures.ends)

pub returns : goal.returns
returns c =
    let if1 = c.if-alerts-eq0 in
    let put_field = c.put_field-next in
    let a = c.args in
    let h : a.at ≤ length a.out.now = omega arith in
    container_some a.c a.alerts h if1.false put_field.ensures c.put_count.ensures
