use native.Mathlib.Omega.{arith}
use Prim.Native.Nat.{◌*◌}
use Rattle.fields.proofs.RowWriting.{part_long}
use Rattle.normaliser.specs.Writer.{form_width}
use Rattle.composition.proofs.UseNumbers.{counts_same, pair_count, pair_at, number_named}
use Rattle.composition.proofs.RowLoop.{rowing_start, row_room, rowing_over, rowing_next, rowing_end}
use Rattle.composition.proofs.put_uses.Goals as goal

pub loop-k-init : goal.loop-k-init
loop-k-init c =
    rowing_start _ _ _ (omega (arith, c.requires.0, pair_count c.args.first.bytes.now c.args.second.bytes.now c.requires.1 c.args.consent)) (omega (arith, c.requires.0))

pub number_at-i-requires : goal.number_at-i-requires
number_at-i-requires c = omega (arith, c.loop-k-test.true, c.requires.0)

pub number_at-j-requires : goal.number_at-j-requires
number_at-j-requires c =
    omega (arith, c.loop-k-test.true, c.requires.0, counts_same c.args.first.bytes.now c.args.second.bytes.now c.requires.1)

pub slice_bounds-put_composed-end : goal.slice_bounds-put_composed-end
slice_bounds-put_composed-end c = row_room _ _ _ _ c.loop-k.invariant c.loop-k-test.true

pub put_composed-requires : goal.put_composed-requires
put_composed-requires c =
    let loop = c.loop-k in
    let taken = c.loop-k-test.true in (
      part_long loop.forms (loop.k * form_width) form_width (row_room _ _ _ _ loop.invariant taken),
      number_named c.args.first.bytes.now c.requires.1.first loop.k (omega (arith, taken, c.requires.0)) c.number_at-i.ensures,
      number_named c.args.second.bytes.now c.requires.1.second loop.k
          (omega (arith, taken, c.requires.0, counts_same c.args.first.bytes.now c.args.second.bytes.now c.requires.1))
          c.number_at-j.ensures,
    )

pub returns-then-not-put_composed : goal.returns-then-not-put_composed
returns-then-not-put_composed c =
    let loop = c.loop-k in
    let taken = c.loop-k-test.true in
    rowing_over _ _ _ _ loop.invariant taken
    (pair_at c.args.first.bytes.now c.args.second.bytes.now c.requires.1 c.args.consent loop.k (omega (arith, taken, c.requires.0))
    c.number_at-i.ensures c.number_at-j.ensures) c.put_composed.ensures c.if-not-put_composed.true _

pub loop-k-preserved : goal.loop-k-preserved
loop-k-preserved c =
    let loop = c.loop-k in
    let taken = c.loop-k-test.true in
    rowing_next _ _ _ _ loop.invariant taken
    (pair_at c.args.first.bytes.now c.args.second.bytes.now c.requires.1 c.args.consent loop.k (omega (arith, taken, c.requires.0))
    c.number_at-i.ensures c.number_at-j.ensures) _ c.put_composed.ensures c.if-not-put_composed.false

pub shape_of-forms : goal.shape_of-forms
shape_of-forms c = omega (arith, c.loop-k.invariant.long, c.requires.0)

pub returns : goal.returns
returns c = rowing_end _ _ _ _ c.loop-k.invariant c.loop-k-test.false
