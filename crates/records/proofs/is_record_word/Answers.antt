-- `records::is_record_word`. Condition by condition: the first that fails decides `record_good`.
use mathlib.Core.Path.{◌∙◌}
use Rattle.lists.proofs.Bools.{passes_test, fails_test}
use Rattle.records.proofs.TestLaws.{code_none, code_over, byte_set, by_user}
use Rattle.records.proofs.is_record_word.Goals as goal

pub returns-then-q-eq0 : goal.returns-then-q-eq0
returns-then-q-eq0 c = code_none _ _ c.request_in-q.ensures c.if-q-eq0.true

pub returns-then-q-ge-CODE_COUNT : goal.returns-then-q-ge-CODE_COUNT
returns-then-q-ge-CODE_COUNT c = code_over _ _ c.request_in-q.ensures c.if-q-eq0.false c.if-q-ge-CODE_COUNT.true

pub returns-then-not-zeros_good : goal.returns-then-not-zeros_good
returns-then-not-zeros_good c =
    byte_set _ _ c.request_in-q.ensures c.if-q-eq0.false c.if-q-ge-CODE_COUNT.false (fails_test c.zeros_good.ensures c.if-not-zeros_good.true-raw)

pub returns : goal.returns
returns c =
    c.user_good.ensures
    ∙ by_user _ _ c.request_in-q.ensures c.if-q-eq0.false c.if-q-ge-CODE_COUNT.false
    (passes_test c.zeros_good.ensures c.if-not-zeros_good.false-raw)
