-- The tests, one after the other, are those of `owner_good`.
use Rattle.image.specs.Policy.{owner_good}
use borrow.Author.Tests.{lt-ltb, le-ltb}
use Rattle.image.proofs.is_owner.Goals as goal

pub returns-then-o-n : goal.returns-then-o-n
unfolding owner_good
returns-then-o-n c = rw (lt-ltb _ _ c.if-o-n.true)

pub returns : goal.returns
unfolding owner_good
returns c = rw (le-ltb _ _ c.if-o-n.false)
