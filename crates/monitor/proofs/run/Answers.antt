use native.Mathlib.Omega.{arith}
use mathlib.Core.Path.{refl, sym, ap, ◌∙◌}
use borrow.Author.Rules.{rules}
use Rattle.lists.proofs.Bools.{passes_test, fails_test}
use Rattle.records.specs.Records.{record_good}
use Rattle.records.proofs.RecordLaws.{record_short}
use Rattle.records.proofs.TraceRecords.{first_chunk}
use Rattle.monitor.proofs.StepLaws.{step_spelled}
use Rattle.monitor.proofs.AnswerNumbers.{step_told, told_quiet, told_unquiet}
use Rattle.monitor.proofs.StopLoop.{run_9, run_start, run_long, run_next, run_stops, run_refused, run_end}
use Rattle.monitor.proofs.run.Goals as goal

pub returns-then-session-ne-SESSION_LENGTH : goal.returns-then-session-ne-SESSION_LENGTH
returns-then-session-ne-SESSION_LENGTH c = run_9 _ _ c.if-session-ne-SESSION_LENGTH.true _ refl

pub loop-bytes-init : goal.loop-bytes-init
loop-bytes-init c =
    record {
      can_next = search rules;
      finite = tt;
      size = search rules;
      running = run_start _ _ _ (search rules) c.if-session-ne-SESSION_LENGTH.false;
      small = omega arith;
    }

pub returns-then-bytes-ne-RECORD_LENGTH : goal.returns-then-bytes-ne-RECORD_LENGTH
returns-then-bytes-ne-RECORD_LENGTH c =
    run_refused _ _ _ _ _ _ _ c.loop-bytes.invariant.running (first_chunk c.loop-bytes.invariant.size c.in-Some.ensures.steps.1) (record_short _ c.if-bytes-ne-RECORD_LENGTH.true) _
    c.refused_at.ensures

pub returns-then-not-is_record_word : goal.returns-then-not-is_record_word
returns-then-not-is_record_word c =
    let bad = ap record_good (sym c.word_of-w.ensures) ∙ fails_test c.is_record_word.ensures c.if-not-is_record_word.true-raw in
    run_refused _ _ _ _ _ _ _ c.loop-bytes.invariant.running (first_chunk c.loop-bytes.invariant.size c.in-Some.ensures.steps.1) bad _ c.refused_at-then-not-is_record_word.ensures

pub perform_word-number-requires : goal.perform_word-number-requires
perform_word-number-requires c =
    let loop = c.loop-bytes in
    (run_long _ _ _ _ _ loop.invariant.running, passes_test c.is_record_word.ensures c.if-not-is_record_word.false-raw)

pub answer_with-requires : goal.answer_with-requires
answer_with-requires c =
    let loop = c.loop-bytes in
    c.perform_word-number.ensures.3 loop.invariant.small

pub returns-then-number-ne-QUIET_NUMBER : goal.returns-then-number-ne-QUIET_NUMBER
returns-then-number-ne-QUIET_NUMBER c =
    let loop = c.loop-bytes in
    let good = ap record_good (sym c.word_of-w.ensures) ∙ passes_test c.is_record_word.ensures c.if-not-is_record_word.false-raw in
    let done = c.perform_word-number.ensures in
    let e = step_spelled _ _ (run_long _ _ _ _ _ loop.invariant.running) good _ c.word_of-w.ensures _ _ _ _ done.0 done.1 done.2 in
    let told = c.answer_with.ensures ∙ step_told _ _ _ _ _ e.0 e.2 in
    run_stops _ _ _ _ _ _ _ _ _ loop.invariant.running (first_chunk loop.invariant.size c.in-Some.ensures.steps.1) e.1 told (told_unquiet _ _ _ _ told e.0 c.if-number-ne-QUIET_NUMBER.true) _ refl

pub loop-bytes-preserved : goal.loop-bytes-preserved
loop-bytes-preserved c =
    let loop = c.loop-bytes in
    let good = ap record_good (sym c.word_of-w.ensures) ∙ passes_test c.is_record_word.ensures c.if-not-is_record_word.false-raw in
    let done = c.perform_word-number.ensures in
    let e = step_spelled _ _ (run_long _ _ _ _ _ loop.invariant.running) good _ c.word_of-w.ensures _ _ _ _ done.0 done.1 done.2 in
    let chunk = first_chunk loop.invariant.size c.in-Some.ensures.steps.1 in
    record {
      can_next = search rules;
      finite = tt;
      size = c.in-Some.ensures.steps.0 ∙ loop.invariant.size;
      running = run_next _ _ _ _ _ _ _ _ _ loop.invariant.running chunk e.1 refl (told_quiet _ _ _ e.0 c.if-number-ne-QUIET_NUMBER.false) (search rules);
      small = done.3 loop.invariant.small;
    }

pub returns : goal.returns
returns c = run_end _ _ _ _ _ c.loop-bytes.invariant.running c.in-None.ensures.steps.1.0 _ refl
