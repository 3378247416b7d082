-- The two cases.
use Rattle.witness.specs.Nodes.{taken_node}
use borrow.Author.Tests.{eq-eqb, ne_eqb}
use Rattle.witness.proofs.taken_node.Goals as goal

pub returns-then-from-eq0 : goal.returns-then-from-eq0
unfolding taken_node
returns-then-from-eq0 c = simp (eq-eqb _ _ c.if-from-eq0.true)

pub returns : goal.returns
unfolding taken_node
returns c = simp (ne_eqb _ _ c.if-from-eq0.false)
