-- `figures::add_alert`. No other answer is an alert of a container.
use Rattle.std.proofs.Common.{◌≡◌, true, sym, ap, ◌∙◌}
use borrow.Author.Tests.{not-true, not-false}
use Rattle.answers.specs.declared.Answer.{Answer}
use Rattle.answers.specs.Answers.{is_alert, receiver_of}
use Rattle.figures.specs.Counters.{one_added, alerted_with}
use Rattle.figures.proofs.add_alert.Goals as goal

pub returns-then-not-is_alert : goal.returns-then-not-is_alert
unfolding alerted_with
returns-then-not-is_alert c = rw (sym c.is_alert.ensures ∙ not-true _ c.if-not-is_alert.true-raw)

pub returns-in-Given : goal.returns-in-Given
unfolding alerted_with
returns-in-Given c =
    let a = c.args in
    let e : is_alert a.answer ≡ true =
    sym c.is_alert.ensures
    ∙ not-false _ c.if-not-is_alert.false-raw in
    rw e
    (c.add_one.ensures
    ∙ ap (λ (x : Answer). one_added a.alerted.now (receiver_of x)) (sym c.in-Given.is))

pub returns-in-Refused : goal.returns-in-Refused
unfolding alerted_with
returns-in-Refused c = rw c.in-Refused.is
