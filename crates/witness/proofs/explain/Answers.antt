-- The refusals in their order, and the chain.
use native.Mathlib.Omega.{arith}
use mathlib.Core.Path.{◌≡◌, refl, sym, ◌∙◌}
use Rattle.std.proofs.Common.{Err}
use Rattle.answers.specs.declared.Refusal.TheVariants.{LentLength, ExplainBounds}
use Rattle.answers.proofs.Outcomes.{refused_by, refusal_number_positive}
use Rattle.witness.proofs.ExplainLaws.{refusal_9, refusal_image, refusal_24, refusal_none, none_asked, both_there, lent_room, answered_refused, answered_found}
use borrow.Author.Rules.{rules}
use Rattle.witness.proofs.explain.Goals as goal

pub returns-then-not-lent_good : goal.returns-then-not-lent_good
returns-then-not-lent_good c = answered_refused _ _ _ _ _ _ LentLength refl (refusal_9 _ _ _ _ _ _ (sym c.lent_good.ensures ∙ c.if-not-lent_good.true))

pub returns-in_err-image : goal.returns-in_err-image
returns-in_err-image c =
    let same : c.from_residual.result ≡ Err c.in_err-image.field-0.0 = search rules in
    answered_refused _ _ _ _ _ _ _ same
    (refusal_image _ _ _ _ _ _ (sym c.lent_good.ensures ∙ c.if-not-lent_good.false) (sym (refused_by c.accept.ensures.0 c.in_err-image.was))
    (λ z. omega (arith, z, refusal_number_positive c.in_err-image.field-0.0)))

pub returns-then-container-ge-CONTAINER_LIMIT : goal.returns-then-container-ge-CONTAINER_LIMIT
returns-then-container-ge-CONTAINER_LIMIT c =
    rw (← c.in_ok-image.ensures.1)
    (answered_refused _ _ _ _ _ _ ExplainBounds refl
    (refusal_24 _ _ _ _ _ _ (sym c.lent_good.ensures ∙ c.if-not-lent_good.false) c.in_ok-image.image.accepted (none_asked _ _ c.then-container-ge-CONTAINER_LIMIT.either)))

pub find_atom-requires : goal.find_atom-requires
find_atom-requires c =
    let l = lent_room c.args.trace.now c.args.links.now c.args.steps.now (sym c.lent_good.ensures ∙ c.if-not-lent_good.false) in
    (l.0, l.1, c.if-container-ge-CONTAINER_LIMIT.false, c.if-atom-ge-TAG_WIDTH.false)

pub returns : goal.returns
returns c =
    let f = c.find_atom.ensures in
    rw (← c.in_ok-image.ensures.1)
    (answered_found c.in_ok-image.image.bytes.now c.args.trace.now c.args.container c.args.atom c.args.links.now c.args.steps.now c.find_atom.result f.0 f.1 f.2
    (refusal_none _ _ _ _ _ _ (sym c.lent_good.ensures ∙ c.if-not-lent_good.false) c.in_ok-image.image.accepted
    (both_there _ _ c.if-container-ge-CONTAINER_LIMIT.false c.if-atom-ge-TAG_WIDTH.false)) f.3)
