-- `trim::trim`: the refusals in their order, and the kept positions.
use Rattle.std.proofs.Common.{◌≡◌, Err, arith, rules, sym}
use Rattle.answers.specs.Outcomes.{refusal_number}
use Rattle.answers.proofs.Outcomes.{refusal_number_positive}
use Rattle.trim.proofs.TrimCases.{refusal_9, refusal_image, refusal_part, refusal_22, refusal_none, answered_refused, answered_kept}
use Rattle.trim.proofs.trim.Goals as goal

pub returns-then-out-lt-TRIM_LIMIT : goal.returns-then-out-lt-TRIM_LIMIT
returns-then-out-lt-TRIM_LIMIT c = answered_refused _ _ _ (refusal_9 _ _ _ c.if-out-lt-TRIM_LIMIT.true) (λ z. omega (arith, z))

pub returns-in_err-check : goal.returns-in_err-check
returns-in_err-check c =
    let same : c.from_residual.result ≡ Err c.in_err-check.field-0.0 = search rules in
    let some : refusal_number c.in_err-check.field-0.0 ≡ 0 → ⊥ = λ z. omega (arith, z, refusal_number_positive c.in_err-check.field-0.0) in
    rw same (answered_refused _ _ _ (refusal_image _ _ _ c.if-out-lt-TRIM_LIMIT.false c.in_err-check.ensures some) some)

pub returns-then-not-whole_trace : goal.returns-then-not-whole_trace
returns-then-not-whole_trace c =
    answered_refused _ _ _ (refusal_part _ _ _ c.if-out-lt-TRIM_LIMIT.false (sym c.in_ok-check.ensures) (sym c.if-not-whole_trace.ensures)) (λ z. omega (arith, z))

pub returns-in_default : goal.returns-in_default
returns-in_default c =
    answered_refused _ _ _
    (refusal_22 _ _ _ c.if-out-lt-TRIM_LIMIT.false (sym c.in_ok-check.ensures) (sym c.if-not-whole_trace.ensures) c.in_default.ensures)
    (λ z. omega (arith, z))

pub returns : goal.returns
returns c =
    let found = c.in-Some.ensures in
    answered_kept _ _ _ found (search rules) (search rules)
    (refusal_none _ _ _ c.if-out-lt-TRIM_LIMIT.false (sym c.in_ok-check.ensures) (sym c.if-not-whole_trace.ensures) found.counts)
