-- The granted flows of what the subjects reach are the composed ones.
use native.Mathlib.Omega.{arith}
use mathlib.Core.Path.{refl, sym, ◌∙◌}
use lib.Seq.{length-take-le}
use Rattle.matrix.proofs.GoodLaws.{good_parts}
use Rattle.matrix.proofs.RowLoops.{spelling_same}
use Rattle.matrix.proofs.SubjectReach.{closed}
use Rattle.matrix.proofs.compose_flows.Goals as goal

pub reach_flows-requires : goal.reach_flows-requires
reach_flows-requires c = let g = good_parts _ _ _ c.requires.0 in (g.even, g.some_subjects, g.subjects, refl)

pub slice_bounds-reach-end : goal.slice_bounds-reach-end
slice_bounds-reach-end c = let g = good_parts _ _ _ c.requires.0 in omega (arith, g.subjects, c.reach_flows.auto.reach)

pub slice_bounds-fill_granted-end : goal.slice_bounds-fill_granted-end
slice_bounds-fill_granted-end c =
    let g = good_parts _ _ _ c.requires.0 in
    sym (length-take-le _ _ (omega (arith, g.subjects, c.reach_flows.auto.reach)))

pub fill_granted-requires : goal.fill_granted-requires
fill_granted-requires c =
    let g = good_parts _ _ _ c.requires.0 in
    (length-take-le _ _ (omega (arith, g.subjects, c.reach_flows.auto.reach)), g.few, c.requires.1)

pub returns : goal.returns
returns c =
    let good = c.requires.0 in
    let z = closed _ _ _ _ good (omega (arith, (good_parts _ _ _ good).subjects, c.reach_flows.auto.reach)) c.reach_flows.ensures in
    c.fill_granted.ensures ∙ spelling_same _ _ _ _ (λ a b m h. z.flows a b m)
