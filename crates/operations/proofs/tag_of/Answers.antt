-- `operations::tag_of`. The tag is the second number of the row that the view has.
use Rattle.operations.proofs.RowSteps.{tag_seen}
use Rattle.operations.proofs.tag_of.Goals as goal

pub returns : goal.returns
returns c = tag_seen c.args.s.now c.args.c c.requires.1
