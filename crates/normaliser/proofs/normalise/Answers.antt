-- Each case is the definition's; an accepted image's sections go to the writer.
use Rattle.std.proofs.Common.{◌≡◌, Err, arith, rules, sym, ◌∙◌}
use Rattle.answers.proofs.Outcomes.{refused_by, not_accepted}
use Rattle.image.specs.Image.{check_of}
use Rattle.normaliser.proofs.NormalCases.{refusal_short, refusal_image, short_output, image_refused, image_written, sections_policy, sections_accepted, written_small}
use Rattle.normaliser.proofs.normalise.Goals as goal

pub returns-then-out-lt-OUTPUT_BOUND : goal.returns-then-out-lt-OUTPUT_BOUND
returns-then-out-lt-OUTPUT_BOUND c = let told = short_output _ _ c.if-out-lt-OUTPUT_BOUND.true in (told.0, told.1, tt, sym (refusal_short _ _ c.if-out-lt-OUTPUT_BOUND.true))

pub returns-in_err-policy : goal.returns-in_err-policy
returns-in_err-policy c =
    let same : c.from_residual.result ≡ Err c.in_err-policy.field-0.0 = search rules in
    let number = refused_by c.accept.ensures.0 c.in_err-policy.was in
    let told = image_refused _ _ c.if-out-lt-OUTPUT_BOUND.false (sym number) (λ z. not_accepted c.accept.ensures.0 c.in_err-policy.was (number ∙ z)) in
    rw same (told.0, told.1, tt, sym number ∙ sym (refusal_image _ _ c.if-out-lt-OUTPUT_BOUND.false))

pub invariant_of-sections : goal.invariant_of-sections
invariant_of-sections c =
    let policy = c.in_ok-policy.policy in
    let image : policy.bytes.now ≡ c.args.image.now = search rules in
    let good : check_of c.args.image.now ≡ 0 = rw image at policy.accepted in
    let bytes = c.type_inv.image in
    rw (c.containers.ensures, c.users.ensures, c.rules.ensures.0, c.rules.ensures.1, image)
    (record { accepted = sections_accepted c.args.image.now good (λ k. omega (arith, bytes k)) })

pub returns : goal.returns
returns c =
    let policy = c.in_ok-policy.policy in
    let image : policy.bytes.now ≡ c.args.image.now = search rules in
    let good : check_of c.args.image.now ≡ 0 = rw image at policy.accepted in
    let bytes = c.type_inv.image in
    let wrote = rw (sections_policy c.args.image.now good) at
    (rw (c.containers.ensures, c.users.ensures, c.rules.ensures.0, c.rules.ensures.1, image) at c.rewrite.ensures) in
    let told = image_written _ _ c.if-out-lt-OUTPUT_BOUND.false good wrote in
    (told.0, told.1, written_small c.args.image.now good (λ k. omega (arith, bytes k)) wrote, sym (refusal_image _ _ c.if-out-lt-OUTPUT_BOUND.false ∙ good))
