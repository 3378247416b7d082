-- The tests, one after the other, are those of `whole_good`.
use Rattle.image.specs.Image.{whole_good}
use borrow.Author.Tests.{ne_eqb, eq-eqb}
use Rattle.image.proofs.whole_good.Goals as goal

pub returns-then-s-w-ne0 : goal.returns-then-s-w-ne0
unfolding whole_good
returns-then-s-w-ne0 c = rw (ne_eqb _ _ c.if-s-w-ne0.true)

pub returns : goal.returns
unfolding whole_good
returns c = rw (eq-eqb _ _ c.if-s-w-ne0.false)
