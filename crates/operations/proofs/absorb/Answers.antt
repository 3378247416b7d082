-- `operations::absorb`. The meet of both run rules has one mixture, or fits, or not (`absorb_over`, `absorb_done`).
use mathlib.Core.Path.{refl, sym, ◌∙◌}
use Rattle.operations.proofs.RowSteps.{made_some, made_one, made_none, run_kept, kept_lent, met, met_lent, single_first}
use Rattle.operations.proofs.EffectLaws.{lent_fit, lent_single, absorb_over, absorb_done}
use Rattle.operations.proofs.absorb.Goals as goal

pub mixture_at-mixture-requires : goal.mixture_at-mixture-requires
mixture_at-mixture-requires c =
    let s = c.args.s.now in (
      (run_kept s c.args.receiver c.requires.0).kept,
      (run_kept s c.args.giver c.requires.1).kept,
      sym c.both_single.ensures ∙ c.if-both_single.true,
    )

pub narrow-requires : goal.narrow-requires
narrow-requires c =
    let s = c.args.s.now in
    lent_single s c.args.receiver c.requires.0 (single_first s _ _ (sym c.both_single.ensures ∙ c.if-both_single.true))

pub returns-then-both_single : goal.returns-then-both_single
returns-then-both_single c =
    let s = c.args.s.now in
    absorb_done s c.args.receiver c.args.giver c.args.tag c.requires.0 _
    (made_one _ _ refl (c.mixture_at-mixture.ensures ∙ met s _ _ _ _ (run_kept s c.args.receiver c.requires.0) (run_kept s c.args.giver c.requires.1)))
    _ _ c.narrow.ensures.0 c.narrow.ensures.1

pub meet_kept-requires : goal.meet_kept-requires
meet_kept-requires c =
    let s = c.args.s.now in (
      kept_lent s _ (run_kept s c.args.receiver c.requires.0).kept,
      kept_lent s _ (run_kept s c.args.giver c.requires.1).kept,
    )

pub returns-in_default : goal.returns-in_default
returns-in_default c =
    let s = c.args.s.now in
    absorb_over s c.args.receiver c.args.giver c.args.tag
    (made_none _ (met_lent s _ _ _ _ (run_kept s c.args.receiver c.requires.0) (run_kept s c.args.giver c.requires.1) c.meet_kept.ensures) c.in_default.is)

pub update-requires : goal.update-requires
update-requires c =
    lent_fit c.args.s.now c.args.receiver c.requires.0

pub returns : goal.returns
returns c =
    let s = c.args.s.now in
    absorb_done s c.args.receiver c.args.giver c.args.tag c.requires.0 _
    (made_some _ (met_lent s _ _ _ _ (run_kept s c.args.receiver c.requires.0) (run_kept s c.args.giver c.requires.1) c.meet_kept.ensures) c.in-Some.is)
    _ _ c.update.ensures.0 c.update.ensures.1
