-- The marks, the start, the trace.
use native.Mathlib.Omega.{arith}
use Rattle.answers.proofs.Outcomes.{not_accepted}
use Rattle.witness.proofs.FollowedNodes.{start_given}
use Rattle.certificate.proofs.LastAnswer.{judged_low, judged_none, judged_some, judged_is}
use borrow.Author.Rules.{rules}
use Rattle.certificate.proofs.judgement_of.Goals as goal

pub unreachable-requires : goal.unreachable-requires
unreachable-requires c = not_accepted c.start.ensures.0 c.in_default.is (start_given _ _ c.args.image.accepted (search rules))

pub returns-then-not-is_forbidden : goal.returns-then-not-is_forbidden
returns-then-not-is_forbidden c =
    judged_none _ _ _ c.args.image.accepted (search rules) c.start.ensures.1 c.follow_trace-answer.ensures.0 c.is_forbidden.ensures c.if-not-is_forbidden.true-raw

pub offset_bounds-marks-receiver : goal.offset_bounds-marks-receiver
offset_bounds-marks-receiver c =
    omega (
      arith,
      judged_low _ _ _ c.args.image.accepted (search rules) c.start.ensures.1 c.follow_trace-answer.ensures.0 c.mark_own.ensures c.follow_trace-answer.ensures.2
          c.received_of-received.ensures,
    )

pub bounds-marks-receiver : goal.bounds-marks-receiver
bounds-marks-receiver c =
    omega (
      arith,
      judged_low _ _ _ c.args.image.accepted (search rules) c.start.ensures.1 c.follow_trace-answer.ensures.0 c.mark_own.ensures c.follow_trace-answer.ensures.2
          c.received_of-received.ensures,
    )

pub returns : goal.returns
returns c = (
  judged_some _ _ _ c.args.image.accepted (search rules) c.start.ensures.1 c.follow_trace-answer.ensures.0 c.is_forbidden.ensures c.if-not-is_forbidden.false-raw,
  judged_is _ _ _ c.args.image.accepted (search rules) c.start.ensures.1 c.follow_trace-answer.ensures.0 c.mark_own.ensures c.follow_trace-answer.ensures.2
      c.received_of-received.ensures,
)
