-- The last of an explanation, and any other.
use Rattle.witness.specs.Nodes.{is_step}
use Rattle.witness.proofs.is_step.Goals as goal

pub returns-then-told : goal.returns-then-told
unfolding is_step
returns-then-told c = rw (c.if-told.true, c.is_refused.ensures)

pub returns : goal.returns
unfolding is_step
returns c = rw (c.if-told.false, c.is_accepted.ensures)
