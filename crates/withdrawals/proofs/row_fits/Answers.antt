-- Each answer rewrites the definition by the tests that led there.
use borrow.Author.Tests.{eq-eqb, ne_eqb}
use Rattle.rules.specs.Sets.{holds}
use Rattle.matrix.proofs.RowBits.{has_is, has_not}
use Rattle.withdrawals.specs.Returns.{row_fits}
use Rattle.withdrawals.proofs.row_fits.Goals as goal

pub returns-then-row-sources-eq0 : goal.returns-then-row-sources-eq0
unfolding row_fits
returns-then-row-sources-eq0 c = simp (eq-eqb _ _ c.if-row-sources-eq0.true)

pub returns-then-sources-a-eq1 : goal.returns-then-sources-a-eq1
unfolding row_fits holds
returns-then-sources-a-eq1 c = rw (ne_eqb _ _ c.if-row-sources-eq0.false, has_is _ _ c.if-sources-a-eq1.true)

pub returns : goal.returns
unfolding row_fits holds
returns c = rw (ne_eqb _ _ c.if-row-sources-eq0.false, has_not _ _ c.if-sources-a-eq1.false)
