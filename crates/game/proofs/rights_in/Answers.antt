use Rattle.game.proofs.RightSets.{gathering_start, gathering_next, gathering_end}
use Rattle.game.proofs.rights_in.Goals as goal

pub loop-s-init : goal.loop-s-init
loop-s-init c = gathering_start _ _

pub loop-s-preserved : goal.loop-s-preserved
loop-s-preserved c = gathering_next _ _ c.requires _ _ c.loop-s.invariant c.loop-s-test.true

pub returns : goal.returns
returns c = gathering_end _ _ c.requires _ _ c.loop-s.invariant c.loop-s-test.false
