-- The test is whether the two rows have an object in common.
use Rattle.matrix.specs.Rows.{joined_through}
use borrow.Author.Tests.{eq-eqb, ne_eqb}
use Rattle.matrix.proofs.joined_through.Goals as goal

pub returns-then-row-read-eq0 : goal.returns-then-row-read-eq0
unfolding joined_through
returns-then-row-read-eq0 c = simp (eq-eqb _ _ c.if-row-read-eq0.true)

pub returns : goal.returns
unfolding joined_through
returns c = simp (ne_eqb _ _ c.if-row-read-eq0.false)
