-- The refusals in their order, then what is told.
use native.Mathlib.Omega.{arith}
use mathlib.Core.Path.{◌≡◌, refl, sym}
use Rattle.std.proofs.Common.{Err}
use Rattle.answers.specs.declared.Refusal.TheVariants.{LentLength, ExplainTrace}
use Rattle.answers.proofs.Outcomes.{refused_by, refusal_number_positive}
use Rattle.certificate.proofs.WhyCases.{room_short, room_long, refusal_9, refusal_image, refusal_25, left_refused}
use Rattle.certificate.proofs.WhyLaws.{roomy, judged_good, left_told}
use borrow.Author.Rules.{rules}
use Rattle.certificate.proofs.why.Goals as goal

pub returns-then-not-lent_good : goal.returns-then-not-lent_good
returns-then-not-lent_good c =
    left_refused _ _ _ _ _ LentLength refl (refusal_9 _ _ _ _ _ (room_short _ _ _ _ c.lent_good.ensures c.then-not-lent_good.either))

pub returns-in_err-image : goal.returns-in_err-image
returns-in_err-image c =
    let same : c.from_residual.result ≡ Err c.in_err-image.field-0.0 = search rules in
    left_refused _ _ _ _ _ _ same
    (refusal_image _ _ _ _ _ (room_long _ _ _ _ c.lent_good.ensures c.if-not-lent_good.false c.if-out-lt-WHY_LENGTH.false)
    (sym (refused_by c.accept.ensures.0 c.in_err-image.was))
    (λ z. omega (arith, z, refusal_number_positive c.in_err-image.field-0.0)))

pub returns-in_default : goal.returns-in_default
returns-in_default c =
    rw (← c.in_ok-image.ensures.1)
    (left_refused _ _ _ _ _ ExplainTrace refl
    (refusal_25 _ _ _ _ _ (room_long _ _ _ _ c.lent_good.ensures c.if-not-lent_good.false c.if-out-lt-WHY_LENGTH.false) c.in_ok-image.image.accepted c.in_default.ensures))

pub tell-told-requires : goal.tell-told-requires
tell-told-requires c = (
  judged_good _ _ c.in-Some.ensures.1,
  roomy _ _ _ c.args.out.now (room_long _ _ _ _ c.lent_good.ensures c.if-not-lent_good.false c.if-out-lt-WHY_LENGTH.false),
)

pub returns : goal.returns
returns c =
    let j = c.in-Some.ensures in
    let w = c.tell-told.ensures in
    rw (← c.in_ok-image.ensures.1)
    (left_told _ _ j.1 j.0 _ _ _ (room_long _ _ _ _ c.lent_good.ensures c.if-not-lent_good.false c.if-out-lt-WHY_LENGTH.false) c.in_ok-image.image.accepted w.0 w.1 w.2
    c.put_told.ensures)
