-- `session::behalf_good`. Nobody, or a user's number in a process.
use Rattle.session.specs.Rows.{behalf_good}
use borrow.Author.Tests.{eq-eqb, ne_eqb}
use Rattle.lists.proofs.Bools.{passes_test, fails_test}
use Rattle.session.proofs.behalf_good.Goals as goal

pub returns-then-behalf-eq-NOBODY : goal.returns-then-behalf-eq-NOBODY
unfolding behalf_good
returns-then-behalf-eq-NOBODY c = rw (eq-eqb _ _ c.if-behalf-eq-NOBODY.true)

pub returns-then-not-is_process : goal.returns-then-not-is_process
unfolding behalf_good
returns-then-not-is_process c = rw (ne_eqb _ _ c.if-behalf-eq-NOBODY.false, fails_test c.is_process.ensures c.if-not-is_process.true-raw)

pub returns : goal.returns
unfolding behalf_good
returns c = rw (ne_eqb _ _ c.if-behalf-eq-NOBODY.false, passes_test c.is_process.ensures c.if-not-is_process.false-raw)
