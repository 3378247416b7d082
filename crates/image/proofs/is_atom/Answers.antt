-- The tests, one after the other, are those of the disjunction.
use borrow.Author.Tests.{lt-ltb, le-ltb}
use Rattle.image.proofs.is_atom.Goals as goal

pub returns-then-a-lt-DATA_WIDTH : goal.returns-then-a-lt-DATA_WIDTH
returns-then-a-lt-DATA_WIDTH c = rw (lt-ltb _ _ c.if-a-lt-DATA_WIDTH.true)

pub returns : goal.returns
returns c = rw (le-ltb _ _ c.if-a-lt-DATA_WIDTH.false)
