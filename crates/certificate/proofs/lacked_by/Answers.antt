use mathlib.Core.Path.{sym, ◌∙◌}
use Rattle.lists.proofs.Below.{failing_next}
use Rattle.certificate.proofs.FollowedMarks.{lacked_here, lacked_none}
use Rattle.certificate.proofs.lacked_by.Goals as goal

pub returns-then-lacks : goal.returns-then-lacks
returns-then-lacks c = lacked_here _ _ _ c.loop-k.invariant c.lacks.ensures c.if-lacks.true c.loop-k-test.true

pub loop-k-preserved : goal.loop-k-preserved
loop-k-preserved c = failing_next _ _ _ c.loop-k.invariant c.loop-k-test.true (sym c.lacks.ensures ∙ c.if-lacks.false)

pub returns : goal.returns
returns c = lacked_none _ _ _ c.loop-k.invariant c.loop-k-test.false
