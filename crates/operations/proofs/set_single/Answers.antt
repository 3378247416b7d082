-- `operations::set_single`. Two stores leave the words of a rule of one mixture (`single_put`).
use Rattle.operations.proofs.RowSteps.{single_put}
use Rattle.operations.proofs.set_single.Goals as goal

pub returns : goal.returns
returns c = single_put c.args.row.now c.args.tag c.requires.0 c.args.mixture c.requires.1 c.requires.2
