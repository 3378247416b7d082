-- The table has the rights of each set of subjects.
use Rattle.game.proofs.MoveSetLaws.{table_is}
use Rattle.game.proofs.to_first_object.Goals as goal

pub returns : goal.returns
returns c = table_is c.args.subjects c.requires
