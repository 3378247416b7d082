-- `yaslaurel_run`: the answer and the count are what `monitor::run` ensures; 9 leaves all, and only an alert or a blocked access leaves what it received.
use native.Mathlib.Omega.{arith}
use mathlib.Core.Path.{sym, ap, ◌∙◌}
use mathlib.Core.Bool.{◌||◌}
use borrow.Author.Tests.{eq-eqb, ne_eqb, not-true, not-false}
use Rattle.answers.specs.Answers.{is_alert, is_blocked, received_of, answer_number}
use Rattle.answers.proofs.Cases.{other_number}
use Rattle.monitor.specs.declared.Ran.{Ran}
use Rattle.capi.proofs.yaslaurel_run.Goals as goal

pub returns-then-number : goal.returns-then-number
returns-then-number c =
    let run = c.run-ran.ensures in
    let number = c.number-number.ensures ∙ ap (λ (x : Ran). answer_number x.answer) run.0 in
    let nine = sym number ∙ c.if-number.true in
    let permitted =
    ap (λ (x : Ran). is_alert x.answer || is_blocked x.answer) (sym run.0)
    ∙ other_number c.run-ran.result.answer (λ z. omega (arith, c.number-number.ensures, c.if-number.true, z))
    (λ z. omega (arith, c.number-number.ensures, c.if-number.true, z)) in
    (number, run.1, rw (eq-eqb _ _ nine), rw permitted)

pub returns-then-not-is_forbidden : goal.returns-then-not-is_forbidden
returns-then-not-is_forbidden c =
    let run = c.run-ran.ensures in
    let number = c.number-number.ensures ∙ ap (λ (x : Ran). answer_number x.answer) run.0 in
    let taken = ne_eqb _ _ (λ z. c.if-number.false (number ∙ z)) in
    let permitted = ap (λ (x : Ran). is_alert x.answer || is_blocked x.answer) (sym run.0) ∙ sym c.is_forbidden.ensures ∙ not-true _ c.if-not-is_forbidden.true-raw in
    (number, run.1, rw taken (ap (λ (x : Ran). x.taken) run.0), rw permitted)

pub returns : goal.returns
returns c =
    let run = c.run-ran.ensures in
    let number = c.number-number.ensures ∙ ap (λ (x : Ran). answer_number x.answer) run.0 in
    let taken = ne_eqb _ _ (λ z. c.if-number.false (number ∙ z)) in
    let forbidden =
    ap (λ (x : Ran). is_alert x.answer || is_blocked x.answer) (sym run.0) ∙ sym c.is_forbidden.ensures
    ∙ not-false _ c.if-not-is_forbidden.false-raw in (
      number,
      run.1,
      rw taken (ap (λ (x : Ran). x.taken) run.0),
      rw forbidden (c.received_of-received.ensures ∙ ap (λ (x : Ran). received_of x.answer) run.0),
    )
