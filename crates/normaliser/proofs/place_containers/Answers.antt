use Rattle.normaliser.proofs.FirstUse.{placing_asks, placing_next}
use Rattle.normaliser.proofs.SectionRows.{containing_start, containing_first, containing_next, containing_end, both_at}
use Rattle.normaliser.proofs.place_containers.Goals as goal

pub loop-i-init : goal.loop-i-init
loop-i-init c =
    containing_start c.args.containers.now c.args.classes.now c.args.order.now c.args.ranks.now c.requires.2 c.requires.1

pub place-next-requires : goal.place-next-requires
place-next-requires c =
    let loop = c.loop-i in
    let taken = c.loop-i-test.true in
    let read16 = c.read16-permit in
    rw read16.ensures.0
    (placing_asks c.args.classes.now _ (both_at _ c.args.containers.now loop.i taken c.requires.0).0
    (containing_first loop.invariant taken))

pub place-m-requires : goal.place-m-requires
place-m-requires c =
    let loop = c.loop-i in
    let taken = c.loop-i-test.true in
    let permit = c.place-next.ensures in
    let left = placing_next (containing_first loop.invariant taken) permit.1 (rw c.read16-permit.ensures.0 at permit.0)
    c.place-next.auto.order c.place-next.auto.ranks in
    let read162 = c.read16-run in
    rw read162.ensures.0 (placing_asks c.args.classes.now _ (both_at _ c.args.containers.now loop.i taken c.requires.0).1 left)

pub loop-i-preserved : goal.loop-i-preserved
loop-i-preserved c =
    let loop = c.loop-i in
    let taken = c.loop-i-test.true in
    let read16 = c.read16-permit in
    let read162 = c.read16-run in
    let place = c.place-next in
    let order = c.place-next.auto.order in
    let ranks = c.place-next.auto.ranks in
    let place2 = c.place-m in
    let order2 = c.place-m.auto.order in
    let inv = loop.invariant in
    let permit = place.ensures in
    let run = place2.ensures in
    let left = placing_next (containing_first inv taken) permit.1 (rw read16.ensures.0 at permit.0) order ranks in
    containing_next inv taken (placing_next left run.1 (rw read162.ensures.0 at run.0) order2 c.place-m.auto.ranks)

pub shape_of-order : goal.shape_of-order
shape_of-order c = c.loop-i.invariant.placing.long_order

pub shape_of-ranks : goal.shape_of-ranks
shape_of-ranks c = c.loop-i.invariant.placing.long_ranks

pub returns : goal.returns
returns c = (containing_end c.loop-i.invariant c.loop-i-test.false, c.loop-i.invariant.placing.ordered)
