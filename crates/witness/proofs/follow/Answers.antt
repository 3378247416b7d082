-- Start, nodes, trace.
use mathlib.Core.Path.{◌∙◌}
use Rattle.answers.proofs.Outcomes.{not_accepted}
use Rattle.session.proofs.Canonical.{started_effect}
use Rattle.witness.proofs.FollowedNodes.{start_given, followed}
use borrow.Author.Rules.{rules}
use Rattle.witness.proofs.follow.Goals as goal

pub unreachable-requires : goal.unreachable-requires
unreachable-requires c = not_accepted c.start.ensures.0 c.in_default.is (start_given _ _ c.args.image.accepted (search rules))

pub returns : goal.returns
returns c =
    followed _ _ _ _ _ _ _ (c.start.ensures.1 ∙ started_effect _ _ c.args.image.accepted (search rules)) c.requires.2 _ c.begin.ensures c.follow_trace.ensures
