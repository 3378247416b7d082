-- Both bounds are the definition's.
use Rattle.matrix.specs.Flows.{count_good}
use borrow.Author.Tests.{le-leb, lt-leb}
use Rattle.matrix.proofs.count_good.Goals as goal

pub returns-then-n-ge1 : goal.returns-then-n-ge1
unfolding count_good
returns-then-n-ge1 c = rw (le-leb 1 c.args.n c.if-n-ge1.true)

pub returns-else-n-ge1 : goal.returns-else-n-ge1
unfolding count_good
returns-else-n-ge1 c = rw (lt-leb 1 c.args.n c.if-n-ge1.false)
