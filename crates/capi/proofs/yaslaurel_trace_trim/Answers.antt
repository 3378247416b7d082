-- `yaslaurel_trace_trim`: the refusal is what `trim::trim` ensures, and the count is handed on unless it is one.
use Rattle.std.proofs.Common.{sym, ap, ◌∙◌, ne_eqb, arith}
use Rattle.answers.specs.Outcomes.{refusal_number}
use Rattle.answers.proofs.Outcomes.{refusal_number_positive}
use Rattle.trim.specs.Trims.{trimmed_of}
use Rattle.capi.proofs.yaslaurel_trace_trim.Goals as goal

pub returns-in-Ok : goal.returns-in-Ok
returns-in-Ok c =
    let e = sym c.trim.ensures.0 ∙ ap trimmed_of c.in-Ok.is in
    (rw e, c.trim.ensures.1, rw e)

pub returns-in-Err : goal.returns-in-Err
returns-in-Err c =
    let e = sym c.trim.ensures.0 ∙ ap trimmed_of c.in-Err.is in
    let refused = ne_eqb (refusal_number c.in-Err.refusal) 0 (λ z. omega (arith, refusal_number_positive c.in-Err.refusal, z)) in
    (c.number.ensures ∙ rw e, c.trim.ensures.1, rw (e, refused))
