use native.Mathlib.Omega.{arith}
use mathlib.Core.Path.{◌∙◌}
use Rattle.records.proofs.TraceRecords.{first_chunk}
use Rattle.certificate.proofs.FollowedMarks.{following_start, following_few, following_next, following_end}
use borrow.Author.Rules.{rules}
use Rattle.certificate.proofs.follow_trace.Goals as goal

pub loop-n-init : goal.loop-n-init
loop-n-init c = record { sized = search rules; following = following_start c.requires (search rules) (search rules) }

pub follow_record-answer-requires : goal.follow_record-answer-requires
follow_record-answer-requires c =
    let i = c.loop-n.invariant in
    let e = c.in-Some.ensures.steps in
    let few = following_few i.following (first_chunk i.sized e.0.1) (omega arith) in
    (i.following.long, omega (arith, e.1, few))

pub loop-n-preserved : goal.loop-n-preserved
loop-n-preserved c =
    let i = c.loop-n.invariant in
    let e = c.in-Some.ensures.steps in
    let f = c.follow_record-answer.ensures in
    record {
      sized = e.0.0 ∙ i.sized;
      following = following_next i.following (first_chunk i.sized e.0.1) e.1 e.2 f.0 f.1 f.2 (search rules);
    }

pub returns : goal.returns
returns c = following_end c.loop-n.invariant.following c.in-None.ensures.steps.0.1.0
