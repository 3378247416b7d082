use Rattle.composition.proofs.RecordLoops.{own_start, own_room, own_next, own_end}
use Rattle.composition.proofs.put_places.Goals as goal

pub loop-i-init : goal.loop-i-init
loop-i-init c = own_start _ _ c.requires.0 c.requires.1

pub put_container_record-at-requires : goal.put_container_record-at-requires
put_container_record-at-requires c =
    own_room _ _ c.loop-i-test.true c.read8-kind.ensures.0 c.read8-atom.ensures.0 c.loop-i.invariant

pub loop-i-preserved : goal.loop-i-preserved
loop-i-preserved c =
    own_next _ _ c.loop-i-test.true c.read8-kind.ensures.0 c.read8-atom.ensures.0 c.loop-i.invariant
    c.put_container_record-at.ensures

pub shape_of-out : goal.shape_of-out
shape_of-out c = c.loop-i.invariant.long

pub returns : goal.returns
returns c = own_end _ c.loop-i.invariant c.loop-i-test.false
