-- The appends to b are three bits.
use Rattle.game.proofs.MoveSetLaws.{reaches_is}
use Rattle.game.proofs.reaches.Goals as goal

pub returns : goal.returns
returns c = reaches_is _ _ c.requires
