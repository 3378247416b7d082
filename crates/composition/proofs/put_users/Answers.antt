use Rattle.composition.proofs.RecordLoops.{users_start, users_room, users_next, users_end}
use Rattle.composition.proofs.put_users.Goals as goal

pub loop-i-init : goal.loop-i-init
loop-i-init c = users_start _ _ _ c.requires.0 c.requires.2

pub put16-at-requires : goal.put16-at-requires
put16-at-requires c = users_room _ _ c.loop-i.invariant c.loop-i-test.true

pub loop-i-preserved : goal.loop-i-preserved
loop-i-preserved c = users_next _ _ c.loop-i.invariant c.loop-i-test.true c.put16-at.ensures

pub shape_of-out : goal.shape_of-out
shape_of-out c = c.loop-i.invariant.long

pub returns : goal.returns
returns c = users_end _ _ c.loop-i.invariant c.loop-i-test.false
