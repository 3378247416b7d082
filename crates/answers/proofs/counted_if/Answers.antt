-- `answers::counted_if`. The test that was taken.
use Rattle.answers.proofs.counted_if.Goals as goal

pub returns-then-counts : goal.returns-then-counts
returns-then-counts c = rw c.if-counts.true c.more.ensures
