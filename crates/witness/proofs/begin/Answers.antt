use native.Mathlib.Omega.{arith}
use lib.ListN.{length-set}
use Rattle.witness.proofs.BeginLaws.{beginning_start, beginning_next, beginning_end}
use Rattle.witness.proofs.begin.Goals as goal

pub loop-c-init : goal.loop-c-init
loop-c-init c = beginning_start _ _ _ _ c.requires.0

pub bounds-held-c : goal.bounds-held-c
bounds-held-c c = omega (arith, c.loop-c.invariant.long)

pub bounds-held-c-in-loop-c : goal.bounds-held-c-in-loop-c
bounds-held-c-in-loop-c c = simp length-set (omega (arith, c.loop-c.invariant.long))

pub loop-c-preserved : goal.loop-c-preserved
loop-c-preserved c = beginning_next _ _ _ _ _ _ c.loop-c.invariant c.loop-c-test.true c.start_node.ensures

pub returns : goal.returns
returns c = beginning_end _ _ _ _ _ c.loop-c.invariant c.loop-c-test.false
