-- A withdrawal takes off one bit.
use Rattle.game.proofs.GamePositions.{right_off}
use Rattle.game.proofs.withdrawn.Goals as goal

pub returns : goal.returns
returns c = right_off _ _ c.requires
