use Prim.Native.Nat.{ℕ, ◌*◌}
use mathlib.Core.Path.{ap, ◌∙◌}
use native.Mathlib.Omega.{arith}
use native.Mathlib.Nat.{add-sub_cancel_left}
use lib.ListN.{length, length-replicate, length-take, length-drop}
use Rattle.session.proofs.RowsOfOneWidth.{rowed_start}
use Rattle.image.specs.Limits.{container_limit}
use Rattle.session.specs.Limits.{row_width}
use Rattle.session.proofs.RecordRows.{container_rows, container_good_lem, containers_next, containers_end}
use Rattle.session.proofs.fill_containers.Goals as goal

pub loop-i-init : goal.loop-i-init
loop-i-init c =
    rowed_start row_width container_limit (container_rows c.args.cs.now c.args.rules.records.now c.args.rules.mixtures.now) c.args.out.now
    (ap length c.requires.0 ∙ length-replicate {A = ℕ} (container_limit * row_width) 0)

pub put_container_row-requires : goal.put_container_row-requires
put_container_row-requires c = (
  simp (length-take, length-drop, add-sub_cancel_left) (omega (arith, c.loop-i.invariant.long, c.requires.1)),
  simp (length-take, length-drop, add-sub_cancel_left) (omega arith),
  rw add-sub_cancel_left
      (container_good_lem c.args.cs.now c.args.rules.records.now c.args.rules.mixtures.now c.requires.2 c.args.rules.good
      c.loop-i.i c.loop-i-test.true),
)

pub loop-i-preserved : goal.loop-i-preserved
loop-i-preserved c =
    containers_next c.args.cs.now c.args.rules.records.now c.args.rules.mixtures.now c.requires.2 c.args.rules.good c.args.out.now
    c.loop-i.out c.loop-i.i
    c.loop-i.invariant
    (omega (arith, c.loop-i-test.true, c.requires.1))
    c.loop-i-test.true _ (rw add-sub_cancel_left at c.put_container_row.ensures)

pub shape_of-out : goal.shape_of-out
shape_of-out c = c.loop-i.invariant.same

pub returns : goal.returns
returns c =
    containers_end c.args.cs.now c.args.rules.records.now c.args.rules.mixtures.now c.requires.2 c.args.rules.good c.args.out.now
    c.loop-i.out c.loop-i.i c.loop-i.invariant c.loop-i-test.false c.requires.0
