-- The three cases.
use Rattle.witness.specs.Nodes.{next_node}
use borrow.Author.Tests.{eq-eqb, ne_eqb}
use Rattle.witness.proofs.next_node.Goals as goal

pub returns-then-ends : goal.returns-then-ends
unfolding next_node
returns-then-ends c = rw (c.if-ends.true, c.taken_node.ensures)

pub returns-then-own-eq0 : goal.returns-then-own-eq0
unfolding next_node
returns-then-own-eq0 c = rw (c.if-ends.false, eq-eqb _ _ c.if-own-eq0.true, c.taken_node-then-own-eq0.ensures)

pub returns : goal.returns
unfolding next_node
returns c = rw (c.if-ends.false, ne_eqb _ _ c.if-own-eq0.false)
