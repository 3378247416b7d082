use native.Mathlib.Omega.{arith}
use Rattle.lists.proofs.Same.{same_unlike}
use Rattle.composition.proofs.SelfComposition.{uniting_start, uniting_next, uniting_end}
use Rattle.composition.proofs.same_bytes.Goals as goal

pub returns-then-a-b : goal.returns-then-a-b
returns-then-a-b c = same_unlike _ _ c.if-a-b.true

pub loop-i-init : goal.loop-i-init
loop-i-init c = uniting_start _ _ c.if-a-b.false

pub bounds-b-i : goal.bounds-b-i
bounds-b-i c = omega (arith, c.loop-i-test.true, c.loop-i.invariant.even)

pub loop-i-preserved : goal.loop-i-preserved
loop-i-preserved c = uniting_next _ _ _ _ c.loop-i.invariant c.loop-i-test.true

pub returns : goal.returns
returns c = uniting_end _ _ _ _ c.loop-i.invariant c.loop-i-test.false
