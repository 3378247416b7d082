use native.Mathlib.Omega.{arith}
use mathlib.Core.Path.{sym, ◌∙◌}
use Rattle.lists.proofs.Counting.{count_length}
use Rattle.lists.proofs.Copying.{copied_start, copied_next, copied_all}
use Rattle.trim.specs.Trims.{trim_limit}
use Rattle.trim.proofs.PairLaws.{numbered}
use Rattle.trim.proofs.number.Goals as goal

pub loop-i-init : goal.loop-i-init
loop-i-init c = copied_start _ _ _ (omega (arith, c.requires, count_length 0 trim_limit))

pub loop-i-preserved : goal.loop-i-preserved
loop-i-preserved c = copied_next _ _ _ _ _ c.loop-i.invariant _ _ (omega arith) (omega (arith, c.loop-i-test.true, count_length 0 trim_limit)) (numbered _ c.loop-i-test.true)

pub returns : goal.returns
returns c = copied_all _ _ _ _ c.loop-i.invariant (count_length 0 trim_limit ∙ sym c.requires) (omega (arith, c.loop-i-test.false, c.loop-i.invariant.long, c.requires))
