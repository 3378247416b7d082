-- The count of the permit rule, then that of the run rule.
use borrow.Author.Tests.{eq-eqb, ne_eqb}
use Rattle.session.specs.Rows.{singles}
use Rattle.session.proofs.singles.Goals as goal

pub returns-then-row-ne1 : goal.returns-then-row-ne1
unfolding singles
returns-then-row-ne1 c = rw (ne_eqb _ _ c.if-row-ne1.true)

pub returns : goal.returns
unfolding singles
returns c = rw (eq-eqb _ _ c.if-row-ne1.false)
