-- An accepted record leaves its mark, another leaves the marks as they were.
use Rattle.certificate.proofs.FollowedMarks.{took, left, took_long, took_asked, took_marks}
use Rattle.certificate.proofs.follow_record.Goals as goal

pub returns-then-not-is_accepted : goal.returns-then-not-is_accepted
returns-then-not-is_accepted c =
    let s = c.step-answer.ensures in
    (s.0, s.1, left c.args.session.now c.args.bytes.now s.0 c.is_accepted.ensures c.args.marks.now c.args.n c.if-not-is_accepted.true-raw)

pub request_of-q-requires : goal.request_of-q-requires
request_of-q-requires c =
    took_long _ _ (took c.args.session.now c.args.bytes.now c.step-answer.ensures.0 c.is_accepted.ensures c.if-not-is_accepted.false-raw)

pub receiver_of-to-requires : goal.receiver_of-to-requires
receiver_of-to-requires c =
    took_asked _ _ (took c.args.session.now c.args.bytes.now c.step-answer.ensures.0 c.is_accepted.ensures c.if-not-is_accepted.false-raw) c.request_of-q.ensures

pub next_mark-mark-requires : goal.next_mark-mark-requires
next_mark-mark-requires c = (
  c.requires.0,
  c.requires.1,
  took_asked _ _ (took c.args.session.now c.args.bytes.now c.step-answer.ensures.0 c.is_accepted.ensures c.if-not-is_accepted.false-raw) c.request_of-q.ensures,
)

pub returns : goal.returns
returns c =
    let s = c.step-answer.ensures in (
      s.0,
      s.1,
      took_marks _ _ _ _ (took c.args.session.now c.args.bytes.now s.0 c.is_accepted.ensures c.if-not-is_accepted.false-raw) c.request_of-q.ensures
          c.receiver_of-to.ensures.0 c.next_mark-mark.ensures,
    )
