use Rattle.normaliser.proofs.FirstUse.{placing_asks, placing_next}
use Rattle.normaliser.proofs.SectionRows.{using_start, using_first, using_next, using_end, one_at}
use Rattle.normaliser.proofs.place_users.Goals as goal

pub loop-i-init : goal.loop-i-init
loop-i-init c =
    using_start c.args.users.now c.args.classes.now c.args.order.now c.args.ranks.now c.args.m c.requires.2 c.requires.1

pub place-k-requires : goal.place-k-requires
place-k-requires c =
    let loop = c.loop-i in
    let taken = c.loop-i-test.true in
    rw c.read16-rule.ensures.0 (placing_asks c.args.classes.now _ (one_at _ c.args.users.now loop.i taken c.requires.0) (using_first loop.invariant taken))

pub loop-i-preserved : goal.loop-i-preserved
loop-i-preserved c =
    let loop = c.loop-i in
    let taken = c.loop-i-test.true in
    let read16 = c.read16-rule in
    let place = c.place-k in
    let order = c.place-k.auto.order in
    let inv = loop.invariant in
    let noted = place.ensures in
    using_next inv taken
    (placing_next (using_first inv taken) noted.1 (rw read16.ensures.0 at noted.0) order c.place-k.auto.ranks)

pub shape_of-order : goal.shape_of-order
shape_of-order c = c.loop-i.invariant.placing.long_order

pub shape_of-ranks : goal.shape_of-ranks
shape_of-ranks c = c.loop-i.invariant.placing.long_ranks

pub returns : goal.returns
returns c = (using_end c.loop-i.invariant c.loop-i-test.false, c.loop-i.invariant.placing.ordered)
