-- Each case is the definition's; one image twice goes to the normaliser.
use Rattle.std.proofs.Common.{rules, Err, ◌≡◌, arith, sym, ◌∙◌}
use Rattle.answers.proofs.Outcomes.{refused_by, not_accepted}
use Rattle.composition.proofs.SelfComposition.{repeated, repeat_is}
use Rattle.composition.proofs.ComposeCases.{paired, consent_given, case_short, case_first, case_second, case_input, case_written}
use Rattle.composition.proofs.compose.Goals as goal

pub returns-then-is_repeated : goal.returns-then-is_repeated
returns-then-is_repeated c =
    let same = repeated c.args.first.now c.args.second.now c.args.consent.now c.is_repeated.ensures c.if-is_repeated.true in
    repeat_is c.args.first.now c.args.consent.now _ (λ k. omega (arith, c.type_inv.first k)) same.0 c.args.second.now same.1 _ (c.normalise.ensures.0, c.normalise.ensures.1, c.normalise.ensures.3)

pub returns-then-out-lt-OUTPUT_BOUND : goal.returns-then-out-lt-OUTPUT_BOUND
returns-then-out-lt-OUTPUT_BOUND c = case_short _ _ _ _ c.if-out-lt-OUTPUT_BOUND.true

pub returns-in_err-first : goal.returns-in_err-first
returns-in_err-first c =
    let same : c.from_residual.result ≡ Err c.in_err-first.field-0.0 = search rules in
    let told = refused_by c.accept.ensures.0 c.in_err-first.was in
    rw same (case_first _ _ _ _ c.if-out-lt-OUTPUT_BOUND.false (sym told) (λ z. not_accepted c.accept.ensures.0 c.in_err-first.was (told ∙ z)))

pub returns-in_err-second : goal.returns-in_err-second
returns-in_err-second c =
    let same : c.from_residual-in_err-second.result ≡ Err c.in_err-second.field-0.0 = search rules in
    let told = refused_by c.accept-2.ensures.0 c.in_err-second.was in
    rw same (case_second _ _ _ _ c.if-out-lt-OUTPUT_BOUND.false (sym c.in_ok-first.ensures.0) (sym told)
    (λ z. not_accepted c.accept-2.ensures.0 c.in_err-second.was (told ∙ z)))

pub returns-then-not-input_good : goal.returns-then-not-input_good
returns-then-not-input_good c =
    case_input _ _ _ _ c.if-out-lt-OUTPUT_BOUND.false (sym c.in_ok-first.ensures.0) (sym c.in_ok-second.ensures.0)
    (rw (c.in_ok-first.ensures.1, c.in_ok-second.ensures.1) at (sym c.input_good.ensures ∙ c.if-not-input_good.true))

pub consent_set-requires : goal.consent_set-requires
consent_set-requires c = consent_given _ _ _ (sym c.input_good.ensures ∙ c.if-not-input_good.false)

pub write_pair-requires : goal.write_pair-requires
write_pair-requires c = (
  paired _ _ _ c.in_ok-first.first.accepted c.in_ok-second.second.accepted (sym c.input_good.ensures ∙ c.if-not-input_good.false),
  c.if-out-lt-OUTPUT_BOUND.false,
)

pub returns : goal.returns
returns c =
    rw c.ok_or.ensures.value
    (case_written c.args.first.now c.args.second.now c.args.consent.now _ c.if-out-lt-OUTPUT_BOUND.false
    (sym c.in_ok-first.ensures.0) (sym c.in_ok-second.ensures.0)
    (rw (c.in_ok-first.ensures.1, c.in_ok-second.ensures.1) at (sym c.input_good.ensures ∙ c.if-not-input_good.false))
    c.consent_set.ensures (rw (c.in_ok-first.ensures.1, c.in_ok-second.ensures.1) at c.write_pair.ensures))
