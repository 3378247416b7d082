use native.Mathlib.Omega.{arith}
use mathlib.Core.Path.{refl}
use Rattle.normaliser.proofs.HashLaws.{class_fits}
use Rattle.normaliser.proofs.SectionRows.{classing_start, classing_next, classing_end}
use Rattle.normaliser.proofs.classify.Goals as goal

pub loop-k-init : goal.loop-k-init
loop-k-init c =
    (classing_start c.args.forms.now c.args.classes.now c.requires.0 c.requires.1, c.requires.2, refl)

pub class_of-v-requires : goal.class_of-v-requires
class_of-v-requires c =
    let inv = c.loop-k.invariant in
    (omega (arith, inv.0.count), inv.0.told, inv.1)

pub overflow_cast-classes : goal.overflow_cast-classes
overflow_cast-classes c =
    let loop = c.loop-k in
    omega (
      arith,
      c.class_of-v.ensures.0,
      class_fits c.args.forms.now loop.k (omega (arith, c.requires.0, c.requires.1)),
    )

pub offset_bounds-classes-k : goal.offset_bounds-classes-k
offset_bounds-classes-k c =
    let inv = c.loop-k.invariant in
    omega (arith, inv.0.count, inv.0.long, c.requires.0)

pub bounds-classes-k : goal.bounds-classes-k
bounds-classes-k c =
    let inv = c.loop-k.invariant in
    omega (arith, inv.0.count, inv.0.long, c.requires.0)

pub loop-k-preserved : goal.loop-k-preserved
loop-k-preserved c =
    let inv = c.loop-k.invariant in
    let told = c.class_of-v.ensures in
    (classing_next inv.0 c.loop-k-test.true told.0, told.1, omega (arith, c.class_of-v.auto.slots, inv.2))

pub shape_of-classes : goal.shape_of-classes
shape_of-classes c = c.loop-k.invariant.0.long

pub shape_of-slots : goal.shape_of-slots
shape_of-slots c = c.loop-k.invariant.2

pub returns : goal.returns
returns c = classing_end c.loop-k.invariant.0 c.loop-k-test.false
