-- `operations::behalf_refusal`. Nobody may name any user, a user's process that user.
use borrow.Author.Tests.{eq-eqb, ne_eqb}
use Rattle.operations.proofs.behalf_refusal.Goals as goal

pub returns-then-behalf-eq-NOBODY : goal.returns-then-behalf-eq-NOBODY
returns-then-behalf-eq-NOBODY c = rw (eq-eqb _ _ c.if-behalf-eq-NOBODY.true)

pub returns-then-behalf-u : goal.returns-then-behalf-u
returns-then-behalf-u c = rw (ne_eqb _ _ c.if-behalf-eq-NOBODY.false, eq-eqb _ _ c.if-behalf-u.true)

pub returns : goal.returns
returns c = rw (ne_eqb _ _ c.if-behalf-eq-NOBODY.false, ne_eqb _ _ c.if-behalf-u.false)
