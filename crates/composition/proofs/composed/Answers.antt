-- What enters of both rules makes the rule.
use native.Mathlib.Omega.{arith}
use Rattle.composition.proofs.EnteringLoop.{first_few, second_few, both_few, made_of_both}
use Rattle.composition.proofs.composed.Goals as goal

pub list_entering-m-requires : goal.list_entering-m-requires
list_entering-m-requires c =
    let p = c.list_entering-n.ensures in (
      p.long,
      omega (arith, first_few c.args.consent c.args.r.now c.args.s.now p, c.requires.0, c.requires.1),
      c.requires.0,
    )

pub slice_bounds-normal-end : goal.slice_bounds-normal-end
slice_bounds-normal-end c =
    let q = c.list_entering-m.ensures in
    omega (
      arith,
      second_few c.args.consent c.args.r.now c.args.s.now c.list_entering-n.ensures q,
      q.long,
      c.requires.0,
      c.requires.1,
    )

pub normal-requires : goal.normal-requires
normal-requires c =
    omega (
      arith,
      both_few c.args.consent c.args.r.now c.args.s.now c.list_entering-n.ensures c.list_entering-m.ensures,
      c.requires.0,
      c.requires.1,
    )

pub returns : goal.returns
returns c =
    made_of_both _ c.args.r.now c.args.s.now c.list_entering-n.ensures c.list_entering-m.ensures c.requires.2 c.requires.3
    c.normal.ensures
