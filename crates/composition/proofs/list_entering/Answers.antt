use mathlib.Core.Path.{sym, ◌∙◌}
use Rattle.composition.proofs.EnteringLoop.{gathering_start, gathering_keep, gathering_skip, gathering_end}
use Rattle.composition.proofs.list_entering.Goals.{then-enters, else-enters}
use Rattle.composition.proofs.list_entering.Goals as goal

pub loop-m-init : goal.loop-m-init
loop-m-init c = gathering_start _ _ _ _ _ c.requires.0 c.requires.1

pub enters-requires : goal.enters-requires
enters-requires c = c.requires.2

pub loop-m-preserved : goal.loop-m-preserved
loop-m-preserved c =
    elim c.if-enters.branch [
      | then-enters w ↦ rw (w.list-is, w.at-is) (gathering_keep c.loop-m.invariant c.loop-m-test.true c.enters.ensures w.if-enters.true)
      | else-enters w ↦ rw (w.list-is, w.at-is) (gathering_skip c.loop-m.invariant c.loop-m-test.true c.enters.ensures w.if-enters.false)
    ]

pub shape_of-list : goal.shape_of-list
shape_of-list c = let inv = c.loop-m.invariant in inv.long ∙ sym inv.was

pub returns : goal.returns
returns c = gathering_end c.loop-m.invariant c.loop-m-test.false
