use native.Mathlib.Omega.{arith}
use Rattle.profiles.proofs.NoteLaws.{sum_start, sum_next, sum_end}
use Rattle.profiles.proofs.notes.path_hash.Goals as goal

pub loop-b-init : goal.loop-b-init
loop-b-init c = sum_start c.args.path.now

pub overflow_cast-sum : goal.overflow_cast-sum
overflow_cast-sum c = omega (arith, c.type_inv.path c.loop-b.b-index)

pub overflow_add-sum : goal.overflow_add-sum
overflow_add-sum c = omega (arith, c.type_inv.path c.loop-b.b-index, c.loop-b.invariant.below)

pub loop-b-preserved : goal.loop-b-preserved
loop-b-preserved c = sum_next _ _ _ c.loop-b.invariant c.loop-b-test.true

pub returns : goal.returns
returns c = sum_end _ _ _ c.loop-b.invariant c.loop-b-test.false
