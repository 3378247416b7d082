-- The set of moves is made of the rights to read object 0.
use Rattle.game.proofs.MoveSetLaws.{set_made}
use Rattle.game.proofs.additions.Goals as goal

pub returns : goal.returns
returns c =
    set_made _ c.requires.0 c.requires.1 c.to_first_object.ensures.0 c.to_first_object-2.ensures.0
