-- `capi::yaslaurel_image_compose`. In a refusal the length is as it was.
use Rattle.std.proofs.Common.{sym, ap, ◌∙◌, ne_eqb, arith}
use Rattle.answers.specs.Outcomes.{refusal_number}
use Rattle.answers.proofs.Outcomes.{refusal_number_positive}
use Rattle.composition.specs.Images.{composition_of}
use Rattle.capi.proofs.yaslaurel_image_compose.Goals as goal

pub returns-in-Ok : goal.returns-in-Ok
returns-in-Ok c =
    let e = sym c.compose.ensures.0 ∙ ap composition_of c.in-Ok.is in
    (rw e, rw e, c.compose.ensures.1)

pub returns-in-Err : goal.returns-in-Err
returns-in-Err c =
    let e = sym c.compose.ensures.0 ∙ ap composition_of c.in-Err.is in
    let refused = ne_eqb (refusal_number c.in-Err.refusal) 0 (λ z. omega (arith, refusal_number_positive c.in-Err.refusal, z)) in
    (c.number.ensures ∙ rw e, rw (e, refused), c.compose.ensures.1)
