-- The loop reads the consent from its last byte on.
use native.Mathlib.Omega.{arith}
use Rattle.std.proofs.lemmas.List.{length_push}
use Rattle.std.proofs.lemmas.Iterator.Consumers.{YieldsList-turn, YieldsList-end}
use Rattle.std.proofs.lemmas.Iterator.Adapters.{YieldsList-from_rev_slice}
use Rattle.composition.proofs.ConsentLoops.{summing_start, summing_next, summing_end}
use Rattle.composition.proofs.consent_set.Goals as goal

pub loop-b-init : goal.loop-b-init
loop-b-init c = summing_start _

pub overflow_add-atoms : goal.overflow_add-atoms
overflow_add-atoms c =
    let bytes = YieldsList-from_rev_slice c.args.consent.now cc in
    let turn = YieldsList-turn bytes c.loop-b.yielded _ c.loop-b.yielded_by _ _ c.in-Some.field-0 c.in-Some.is c.next.ensures.steps in
    omega (arith, (summing_next _ c.requires _ _ _ c.loop-b.invariant turn).small)

pub loop-b-preserved : goal.loop-b-preserved
loop-b-preserved c =
    let bytes = YieldsList-from_rev_slice c.args.consent.now cc in
    let turn = YieldsList-turn bytes c.loop-b.yielded _ c.loop-b.yielded_by _ _ c.in-Some.field-0 c.in-Some.is c.next.ensures.steps in
    rw length_push (summing_next _ c.requires _ _ _ c.loop-b.invariant turn)

pub returns : goal.returns
returns c =
    let bytes = YieldsList-from_rev_slice c.args.consent.now cc in
    let ended = YieldsList-end bytes c.loop-b.yielded _ c.loop-b.yielded_by _ _ c.in-None.is c.next.ensures.steps in
    summing_end _ _ _ c.loop-b.invariant ended.1 c.running_atoms.ensures
