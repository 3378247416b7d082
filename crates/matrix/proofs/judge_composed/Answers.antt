-- What the subjects reach gives the flows of the verdict.
use native.Mathlib.Omega.{arith}
use mathlib.Core.Path.{refl, sym}
use lib.Seq.{length-take-le}
use Rattle.matrix.proofs.GoodLaws.{good_parts}
use Rattle.matrix.proofs.SubjectReach.{closed}
use Rattle.matrix.proofs.judge_composed.Goals as goal

pub reach_flows-requires : goal.reach_flows-requires
reach_flows-requires c = let g = good_parts _ _ _ c.requires in (g.even, g.some_subjects, g.subjects, refl)

pub slice_bounds-reach-end : goal.slice_bounds-reach-end
slice_bounds-reach-end c = let g = good_parts _ _ _ c.requires in omega (arith, g.subjects, c.reach_flows.auto.reach)

pub slice_bounds-judge_flows-end : goal.slice_bounds-judge_flows-end
slice_bounds-judge_flows-end c =
    let g = good_parts _ _ _ c.requires in
    sym (length-take-le _ _ (omega (arith, g.subjects, c.reach_flows.auto.reach)))

pub judge_flows-requires : goal.judge_flows-requires
judge_flows-requires c =
    let good = c.requires in
    closed _ _ _ _ good (omega (arith, (good_parts _ _ _ good).subjects, c.reach_flows.auto.reach)) c.reach_flows.ensures
