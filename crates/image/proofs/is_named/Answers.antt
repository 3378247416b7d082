-- The tests, one after the other, are those of `named`.
use Rattle.image.specs.Policy.{named}
use borrow.Author.Tests.{lt-ltb, le-ltb}
use Rattle.image.proofs.is_named.Goals as goal

pub returns-then-r-n : goal.returns-then-r-n
unfolding named
returns-then-r-n c = rw (lt-ltb _ _ c.if-r-n.true)

pub returns : goal.returns
unfolding named
returns c = rw (le-ltb _ _ c.if-r-n.false)
