-- The two tests, one after the other, are those of `alike`.
use Rattle.normaliser.specs.Hashes.{alike}
use borrow.Author.Tests.{eq-eqb, ne_eqb}
use Rattle.normaliser.proofs.alike.Goals as goal

pub returns-then-a-b : goal.returns-then-a-b
unfolding alike
returns-then-a-b c = rw (ne_eqb _ _ c.if-a-b.true)

pub returns : goal.returns
unfolding alike
returns c = rw (eq-eqb _ _ c.if-a-b.false)
