-- `operations::withheld`. The meet of both run rules has one mixture, or fits, or not (`withheld_fits`, `withheld_over`).
use mathlib.Core.Path.{refl, sym, ap, ◌∙◌}
use mathlib.Core.Bool.{not}
use Rattle.operations.proofs.RowSteps.{made_one, made_told, run_kept, kept_lent, met, met_lent, meet_single}
use Rattle.operations.proofs.EffectLaws.{withheld_over, withheld_fits}
use Rattle.operations.proofs.withheld.Goals as goal

pub returns-then-both_single : goal.returns-then-both_single
returns-then-both_single c =
    let s = c.args.s.now in
    let receiver = run_kept s c.args.receiver c.requires.0 in
    let giver = run_kept s c.args.giver c.requires.1 in
    let singles = sym c.both_single.ensures ∙ c.if-both_single.true in
    withheld_fits s c.args.receiver c.args.giver c.args.tag
    (made_one _ _ refl (meet_single s _ _ singles receiver.kept giver.kept ∙ met s _ _ _ _ receiver giver)).small _ c.blocked.ensures

pub meet_kept-met-requires : goal.meet_kept-met-requires
meet_kept-met-requires c =
    let s = c.args.s.now in
    (kept_lent s _ (run_kept s c.args.receiver c.requires.0).kept, kept_lent s _ (run_kept s c.args.giver c.requires.1).kept)

pub returns-then-is_none : goal.returns-then-is_none
returns-then-is_none c =
    let s = c.args.s.now in
    let met = met_lent s _ _ _ _ (run_kept s c.args.receiver c.requires.0) (run_kept s c.args.giver c.requires.1) c.meet_kept-met.ensures in
    withheld_over s c.args.receiver c.args.giver c.args.tag (sym (made_told _ met) ∙ c.is_none.ensures ∙ ap not c.if-is_none.true)

pub returns : goal.returns
returns c =
    let s = c.args.s.now in
    let met = met_lent s _ _ _ _ (run_kept s c.args.receiver c.requires.0) (run_kept s c.args.giver c.requires.1) c.meet_kept-met.ensures in
    withheld_fits s c.args.receiver c.args.giver c.args.tag (sym (made_told _ met) ∙ c.is_none.ensures ∙ ap not c.if-is_none.false) _ c.blocked-2.ensures
