use Rattle.std.proofs.Common.{◌∙◌, rules}
use Rattle.lists.proofs.Bools.{passes_test, fails_test}
use Rattle.records.proofs.TraceRecords.{first_chunk}
use Rattle.totals.proofs.TotalLoop.{total_start, total_quiet, total_event, total_left, total_end, total_9, bad_session, bad_numbers, good_lengths}
use Rattle.totals.proofs.count_trace.Goals as goal

pub returns-then-session-ne-SESSION_LENGTH : goal.returns-then-session-ne-SESSION_LENGTH
returns-then-session-ne-SESSION_LENGTH c = total_9 _ _ _ (bad_session _ _ c.if-session-ne-SESSION_LENGTH.true)

pub returns-then-figures-ne-FIGURES_LENGTH : goal.returns-then-figures-ne-FIGURES_LENGTH
returns-then-figures-ne-FIGURES_LENGTH c = total_9 _ _ _ (bad_numbers _ _ c.if-session-ne-SESSION_LENGTH.false c.if-figures-ne-FIGURES_LENGTH.true)

pub loop-bytes-init : goal.loop-bytes-init
loop-bytes-init c =
    let zeros = c.fill.ensures.after (λ y e. e) in
    record {
      can_next = search rules;
      finite = tt;
      size = search rules;
      totalling = total_start _ _ _ _ (search rules) (rw c.if-figures-ne-FIGURES_LENGTH.false at zeros);
    }

pub add_event-requires : goal.add_event-requires
add_event-requires c = c.loop-bytes.invariant.totalling.wide

pub loop-bytes-preserved-then-not-is_quiet : goal.loop-bytes-preserved-then-not-is_quiet
loop-bytes-preserved-then-not-is_quiet c =
    let inv = c.loop-bytes.invariant in
    let steps = c.in-Some.ensures.steps in
    let step = c.step-answer.ensures in
    record {
      can_next = search rules;
      finite = tt;
      size = steps.0 ∙ inv.size;
      totalling = total_event _ _ _ _ _ _ inv.totalling _ _ _ _ (first_chunk inv.size steps.1) step.1 step.0 (search rules)
          (fails_test c.is_quiet.ensures c.if-not-is_quiet.true-raw) (search rules) _ c.add_event.ensures;
    }

pub loop-bytes-preserved : goal.loop-bytes-preserved
loop-bytes-preserved c =
    let inv = c.loop-bytes.invariant in
    let steps = c.in-Some.ensures.steps in
    let step = c.step-answer.ensures in
    record {
      can_next = search rules;
      finite = tt;
      size = steps.0 ∙ inv.size;
      totalling = total_quiet _ _ _ _ _ _ inv.totalling _ _ _ _ (first_chunk inv.size steps.1) step.1 step.0 (search rules)
          (passes_test c.is_quiet.ensures c.if-not-is_quiet.false-raw);
    }

pub finish-requires : goal.finish-requires
finish-requires c =
    let inv = c.loop-bytes.invariant.totalling in
    (inv.wide, total_left _ _ _ _ _ _ inv c.in-None.ensures.steps.1.0)

pub returns : goal.returns
returns c =
    total_end _ _ _ _ _ _ c.loop-bytes.invariant.totalling c.in-None.ensures.steps.1.0 _ _
    (good_lengths _ _ c.if-session-ne-SESSION_LENGTH.false c.if-figures-ne-FIGURES_LENGTH.false) c.finish.ensures
