-- `operations::behalf_of`. It is the last number of the row that the view has.
use Rattle.operations.proofs.RowSteps.{behalf_seen}
use Rattle.operations.proofs.behalf_of.Goals as goal

pub returns : goal.returns
returns c = behalf_seen c.args.s.now c.args.c c.requires.1
