use native.Mathlib.Omega.{arith}
use Rattle.derivation.proofs.PermitWords.{permits_start, permits_room, permits_zero, permits_next, permits_end}
use Rattle.derivation.proofs.put_permits.Goals as goal

pub loop-b-init : goal.loop-b-init
loop-b-init c =
    permits_start c.args.rights.reads.now c.args.rights.writes.now c.args.n c.args.rights.few c.requires.1

pub slice_bounds-put_row-end : goal.slice_bounds-put_row-end
slice_bounds-put_row-end c =
    permits_room c.args.rights.reads.now c.args.rights.writes.now c.args.n c.args.rights.few c.loop-b.invariant c.loop-b-test.true

pub put_row-requires : goal.put_row-requires
put_row-requires c =
    let zero = permits_zero c.args.rights.reads.now c.args.rights.writes.now c.args.n c.args.rights.few c.loop-b.invariant c.loop-b-test.true c.requires.1 in
    (omega (arith, c.requires.0, c.loop-b-test.true), zero)

pub loop-b-preserved : goal.loop-b-preserved
loop-b-preserved c =
    let loop = c.loop-b in
    let taken = c.loop-b-test.true in
    permits_next c.args.rights.reads.now c.args.rights.writes.now c.args.n c.args.rights.few loop.invariant taken
    c.put_row.ensures

pub shape_of-words : goal.shape_of-words
shape_of-words c = c.loop-b.invariant.long

pub returns : goal.returns
returns c =
    permits_end c.args.rights.reads.now c.args.rights.writes.now c.args.n c.args.rights.few c.loop-b.invariant c.requires.1 c.loop-b-test.false
