use native.Mathlib.Omega.{arith}
use mathlib.Core.Path.{refl, ◌∙◌}
use borrow.Author.Rules.{rules}
use Rattle.lists.proofs.Bools.{passes_test, fails_test}
use Rattle.records.proofs.TraceRecords.{first_chunk}
use Rattle.events.proofs.GatherLoop.{gather_start, gather_end, gather_quiet, gather_full, gather_event, gather_9, bad_session, bad_room}
use Rattle.events.proofs.gather_events.Goals as goal

pub returns-then-session-ne-SESSION_LENGTH : goal.returns-then-session-ne-SESSION_LENGTH
returns-then-session-ne-SESSION_LENGTH c = gather_9 _ _ _ (bad_session _ _ c.if-session-ne-SESSION_LENGTH.true) _ refl

pub returns-then-events-lt-EVENT_LENGTH : goal.returns-then-events-lt-EVENT_LENGTH
returns-then-events-lt-EVENT_LENGTH c = gather_9 _ _ _ (bad_room _ _ c.if-session-ne-SESSION_LENGTH.false c.if-events-lt-EVENT_LENGTH.true) _ refl

pub loop-bytes-init : goal.loop-bytes-init
loop-bytes-init c =
    record {
      can_next = search rules;
      finite = tt;
      size = search rules;
      gathering = gather_start _ _ _ c.if-session-ne-SESSION_LENGTH.false c.if-events-lt-EVENT_LENGTH.false _ (search rules) _ refl;
    }

pub overflow_mul-written : goal.overflow_mul-written
overflow_mul-written c = let inv = c.loop-bytes.invariant.gathering in omega (arith, inv.free, inv.fits)

pub put_event-requires : goal.put_event-requires
put_event-requires c = let inv = c.loop-bytes.invariant.gathering in omega (arith, inv.free, inv.fits)

pub returns-then-written-room : goal.returns-then-written-room
returns-then-written-room c =
    let inv = c.loop-bytes.invariant in
    let steps = c.in-Some.ensures.steps in
    let step = c.step-answer.ensures in
    gather_full _ _ _ _ _ _ _ _ _ inv.gathering _ _ _ _ (first_chunk inv.size steps.1) step.1 step.0 (search rules)
    (fails_test c.is_quiet.ensures c.if-not-is_quiet.true-raw) _
    c.put_event.ensures (omega arith) _ refl

pub loop-bytes-preserved-else-written-room : goal.loop-bytes-preserved-else-written-room
loop-bytes-preserved-else-written-room c =
    let inv = c.loop-bytes.invariant in
    let steps = c.in-Some.ensures.steps in
    let step = c.step-answer.ensures in
    record {
      can_next = search rules;
      finite = tt;
      size = steps.0 ∙ inv.size;
      gathering = gather_event _ _ _ _ _ _ _ _ _ inv.gathering _ _ _ _ (first_chunk inv.size steps.1) step.1 step.0 (search rules)
          (fails_test c.is_quiet.ensures c.if-not-is_quiet.true-raw) _
          c.put_event.ensures (omega arith);
    }

pub loop-bytes-preserved : goal.loop-bytes-preserved
loop-bytes-preserved c =
    let inv = c.loop-bytes.invariant in
    let steps = c.in-Some.ensures.steps in
    let step = c.step-answer.ensures in
    record {
      can_next = search rules;
      finite = tt;
      size = steps.0 ∙ inv.size;
      gathering = gather_quiet _ _ _ _ _ _ _ _ _ inv.gathering _ _ _ _ (first_chunk inv.size steps.1) step.1 step.0 (search rules)
          (passes_test c.is_quiet.ensures c.if-not-is_quiet.false-raw);
    }

pub returns : goal.returns
returns c = gather_end _ _ _ _ _ _ _ _ _ c.loop-bytes.invariant.gathering c.in-None.ensures.steps.1.0 _ refl
