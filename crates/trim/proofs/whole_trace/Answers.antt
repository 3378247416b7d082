-- `trim::whole_trace`: the tests in their order.
use borrow.Author.Tests.{eq-eqb, ne_eqb}
use Rattle.trim.specs.Replays.{whole_trace}
use Rattle.trim.proofs.whole_trace.Goals as goal

pub returns-then-trace-ne0 : goal.returns-then-trace-ne0
unfolding whole_trace
returns-then-trace-ne0 c = simp (ne_eqb _ _ c.if-trace-ne0.true)

pub returns-then-trace-eq0 : goal.returns-then-trace-eq0
unfolding whole_trace
returns-then-trace-eq0 c = simp (eq-eqb _ _ c.if-trace-ne0.false, eq-eqb _ _ c.if-trace-eq0.true)

pub returns : goal.returns
unfolding whole_trace
returns c = simp (eq-eqb _ _ c.if-trace-ne0.false, ne_eqb _ _ c.if-trace-eq0.false)
