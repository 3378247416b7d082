use Rattle.explanations.proofs.ExplanationLines.{stepping_start, step_room, stepping_next, stepping_end}
use Rattle.explanations.proofs.put_steps.Goals as goal

pub loop-n-init : goal.loop-n-init
loop-n-init c = stepping_start _ _ _ c.requires

pub put_step-next-requires : goal.put_step-next-requires
put_step-next-requires c = step_room _ _ _ _ _ _ c.loop-n.invariant c.loop-n-test.true

pub loop-n-preserved : goal.loop-n-preserved
loop-n-preserved c =
    stepping_next _ _ _ _ _ _ c.loop-n.invariant c.loop-n-test.true _ _ c.put_step-next.ensures

pub shape_of-out : goal.shape_of-out
shape_of-out c = c.loop-n.invariant.long

pub returns : goal.returns
returns c = stepping_end _ _ _ _ _ _ c.loop-n.invariant c.loop-n-test.false
