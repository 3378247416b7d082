-- `monitor::step`: the answer that the number and what was received stand for (`step_told`).
use native.Mathlib.Omega.{arith}
use mathlib.Core.Path.{◌∙◌}
use Rattle.monitor.proofs.AnswerNumbers.{step_told}
use Rattle.monitor.proofs.step.Goals as goal

pub answer_with-requires : goal.answer_with-requires
answer_with-requires c = c.step_into-number.ensures.3 (omega arith)

pub returns : goal.returns
returns c =
    let done = c.step_into-number.ensures in
    (c.answer_with.ensures ∙ step_told _ _ _ _ _ done.0 done.2, done.1)
