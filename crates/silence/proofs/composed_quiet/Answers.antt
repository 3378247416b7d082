-- What comes to the subjects is worked out over the exchanged rows.
use native.Mathlib.Omega.{arith}
use mathlib.Core.Path.{refl, sym}
use lib.Seq.{length-take-le}
use Rattle.matrix.proofs.GoodLaws.{good_parts}
use Rattle.silence.proofs.ExchangeLaws.{whole_counts, reach_closed}
use Rattle.silence.proofs.composed_quiet.Goals as goal

pub slice_bounds-reach_flows-end : goal.slice_bounds-reach_flows-end
slice_bounds-reach_flows-end c = sym (length-take-le _ _ (omega (arith, (good_parts _ _ _ c.requires).even)))

pub slice_bounds-reach_flows-end-2 : goal.slice_bounds-reach_flows-end-2
slice_bounds-reach_flows-end-2 c = sym (length-take-le _ _ (omega arith))

pub reach_flows-requires : goal.reach_flows-requires
reach_flows-requires c = let w = whole_counts _ _ _ c.requires in (w.0, w.1, w.2, refl)

pub slice_bounds-reach-end : goal.slice_bounds-reach-end
slice_bounds-reach-end c = omega (arith, (good_parts _ _ _ c.requires).subjects, c.reach_flows.auto.reach)

pub slice_bounds-all_quiet-end : goal.slice_bounds-all_quiet-end
slice_bounds-all_quiet-end c = sym (length-take-le _ _ (omega (arith, (good_parts _ _ _ c.requires).subjects, c.reach_flows.auto.reach)))

pub all_quiet-requires : goal.all_quiet-requires
all_quiet-requires c =
    let good = c.requires in
    reach_closed _ _ _ _ good (omega (arith, (good_parts _ _ _ good).subjects, c.reach_flows.auto.reach)) c.reach_flows.ensures
