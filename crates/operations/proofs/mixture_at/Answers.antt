-- `operations::mixture_at`. Rules of one mixture meet in one mixture (`meet_single`).
use Rattle.operations.proofs.RowSteps.{meet_single}
use Rattle.operations.proofs.mixture_at.Goals as goal

pub returns : goal.returns
returns c = meet_single c.args.s.now c.args.x c.args.y c.requires.2 c.requires.0 c.requires.1
