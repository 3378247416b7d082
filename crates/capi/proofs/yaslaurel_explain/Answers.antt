-- `yaslaurel_explain`: the refusal is what `witness::explain` ensures, and the two numbers are handed on unless it is one.
use Rattle.std.proofs.Common.{◌≡◌, sym, ap, ◌∙◌, ne_eqb, arith, rules}
use Rattle.answers.specs.Outcomes.{refusal_number}
use Rattle.answers.proofs.Outcomes.{refusal_number_positive}
use Rattle.witness.specs.Found.{file_number}
use Rattle.witness.specs.Explains.{explained}
use Rattle.capi.proofs.yaslaurel_explain.Goals as goal

pub returns-in-Ok : goal.returns-in-Ok
returns-in-Ok c =
    let e = sym c.explain.ensures.0 ∙ ap explained c.in-Ok.is in
    let file : c.unwrap_or.result ≡ file_number c.in-Ok.found.file = search rules in
    (rw e, c.explain.ensures.1, c.explain.ensures.2, rw e file, rw e)

pub returns-in-Err : goal.returns-in-Err
returns-in-Err c =
    let e = sym c.explain.ensures.0 ∙ ap explained c.in-Err.is in
    let refused = ne_eqb (refusal_number c.in-Err.refusal) 0 (λ z. omega (arith, refusal_number_positive c.in-Err.refusal, z)) in
    (c.number.ensures ∙ rw e, c.explain.ensures.1, c.explain.ensures.2, rw (e, refused), rw (e, refused))
