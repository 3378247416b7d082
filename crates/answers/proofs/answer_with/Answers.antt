-- `answers::answer_with`. The three numbers that are no refusal's, one after the other.
use Rattle.answers.specs.Answers.{answer_with}
use Rattle.std.proofs.Common.{eq-eqb, ne_eqb}
use Rattle.answers.proofs.answer_with.Goals as goal

pub returns-then-number-eq-QUIET_NUMBER : goal.returns-then-number-eq-QUIET_NUMBER
unfolding answer_with
returns-then-number-eq-QUIET_NUMBER c = rw (eq-eqb _ _ c.if-number-eq-QUIET_NUMBER.true)

pub returns-then-number-eq-ALERT_NUMBER : goal.returns-then-number-eq-ALERT_NUMBER
unfolding answer_with
returns-then-number-eq-ALERT_NUMBER c = rw (ne_eqb _ _ c.if-number-eq-QUIET_NUMBER.false, eq-eqb _ _ c.if-number-eq-ALERT_NUMBER.true)

pub returns-then-number-eq-BLOCKED_NUMBER : goal.returns-then-number-eq-BLOCKED_NUMBER
unfolding answer_with
returns-then-number-eq-BLOCKED_NUMBER c = rw (ne_eqb _ _ c.if-number-eq-QUIET_NUMBER.false, ne_eqb _ _ c.if-number-eq-ALERT_NUMBER.false, eq-eqb _ _ c.if-number-eq-BLOCKED_NUMBER.true)

pub returns : goal.returns
unfolding answer_with
returns c = rw (ne_eqb _ _ c.if-number-eq-QUIET_NUMBER.false, ne_eqb _ _ c.if-number-eq-ALERT_NUMBER.false, ne_eqb _ _ c.if-number-eq-BLOCKED_NUMBER.false)
