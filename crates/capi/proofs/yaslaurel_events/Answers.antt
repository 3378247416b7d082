-- `yaslaurel_events`: the refusal is what `events::gather_events` ensures, and the counts are handed on unless it is one.
use Rattle.std.proofs.Common.{sym, ap, ◌∙◌, ne_eqb, arith}
use Rattle.answers.specs.Outcomes.{refusal_number}
use Rattle.answers.proofs.Outcomes.{refusal_number_positive}
use Rattle.events.specs.Events.{gathered_of}
use Rattle.capi.proofs.yaslaurel_events.Goals as goal

pub returns-in-Ok : goal.returns-in-Ok
returns-in-Ok c =
    let e = sym c.gather_events.ensures.0 ∙ ap gathered_of c.in-Ok.is in
    (rw e, c.gather_events.ensures.1, c.gather_events.ensures.2, rw e, rw e)

pub returns-in-Err : goal.returns-in-Err
returns-in-Err c =
    let e = sym c.gather_events.ensures.0 ∙ ap gathered_of c.in-Err.is in
    let refused = ne_eqb (refusal_number c.in-Err.refusal) 0 (λ z. omega (arith, refusal_number_positive c.in-Err.refusal, z)) in
    (c.number.ensures ∙ rw e, c.gather_events.ensures.1, c.gather_events.ensures.2, rw (e, refused), rw (e, refused))
