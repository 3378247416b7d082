use Rattle.figures.specs.Lines.{alert_fields}
use Rattle.figures.specs.Buffer.{alerted_text}
use Rattle.figures.proofs.FigureLines.{container_length, placing_start, fields_room, placing_next, placing_end}
use Rattle.figures.proofs.put_alerted.Goals as goal

pub loop-c-init : goal.loop-c-init
loop-c-init c = placing_start _ _ _ _ _ c.requires

pub put_container_alerts-next-requires : goal.put_container_alerts-next-requires
put_container_alerts-next-requires c = fields_room _ _ _ _ _ _ _ _ c.loop-c.invariant c.loop-c-test.true

pub loop-c-preserved : goal.loop-c-preserved
loop-c-preserved c =
    let loop = c.loop-c in
    let taken = c.loop-c-test.true in
    placing_next _ _ _ _ _ _ _ _ loop.invariant taken _ _ (container_length _ _) c.put_container_alerts-next.ensures

pub shape_of-out : goal.shape_of-out
shape_of-out c = c.loop-c.invariant.long

pub returns : goal.returns
unfolding alerted_text alert_fields
returns c = placing_end _ _ _ _ _ _ _ _ c.loop-c.invariant c.loop-c-test.false
