-- `monitor::step_into`: 9, then 7; what is left is what `operations::perform_word` ensures of the number that the record spells.
use mathlib.Core.Path.{sym, ap, ◌∙◌}
use Rattle.lists.proofs.Bools.{passes_test, fails_test}
use Rattle.records.specs.Records.{record_good}
use Rattle.records.proofs.RecordLaws.{record_short}
use Rattle.monitor.proofs.StepLaws.{step_9, step_7, refused_into, step_spelled}
use Rattle.monitor.proofs.step_into.Goals as goal

pub returns-then-session-ne-SESSION_LENGTH : goal.returns-then-session-ne-SESSION_LENGTH
returns-then-session-ne-SESSION_LENGTH c = let e = refused_into _ _ _ (step_9 _ _ c.if-session-ne-SESSION_LENGTH.true) _ in (e.0, e.1, e.2, λ l. l)

pub returns-then-bytes-ne-RECORD_LENGTH : goal.returns-then-bytes-ne-RECORD_LENGTH
returns-then-bytes-ne-RECORD_LENGTH c = let e = refused_into _ _ _ (step_7 _ _ c.if-session-ne-SESSION_LENGTH.false (record_short _ c.if-bytes-ne-RECORD_LENGTH.true)) _ in (e.0, e.1, e.2, λ l. l)

pub returns-then-not-is_record_word : goal.returns-then-not-is_record_word
returns-then-not-is_record_word c =
    let bad = ap record_good (sym c.word_of-w.ensures) ∙ fails_test c.is_record_word.ensures c.if-not-is_record_word.true-raw in
    let e = refused_into _ _ _ (step_7 _ _ c.if-session-ne-SESSION_LENGTH.false bad) _ in (e.0, e.1, e.2, λ l. l)

pub perform_word-requires : goal.perform_word-requires
perform_word-requires c =
    (c.if-session-ne-SESSION_LENGTH.false, passes_test c.is_record_word.ensures c.if-not-is_record_word.false-raw)

pub returns : goal.returns
returns c =
    let good = ap record_good (sym c.word_of-w.ensures) ∙ passes_test c.is_record_word.ensures c.if-not-is_record_word.false-raw in
    let done = c.perform_word.ensures in
    let e = step_spelled _ _ c.if-session-ne-SESSION_LENGTH.false good _ c.word_of-w.ensures _ _ _ _ done.0 done.1 done.2 in
    (e.0, e.1, e.2, done.3)
