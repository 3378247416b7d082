use native.Mathlib.Omega.{arith}
use native.Mathlib.Nat.{zero-add}
use mathlib.Core.Path.{sym, ◌∙◌}
use Rattle.lists.proofs.Counting.{count_length, count_at}
use Rattle.lists.proofs.Copying.{copied_start, copied_next, copied_all}
use Rattle.image.specs.Limits.{container_limit}
use Rattle.certificate.proofs.mark_own.Goals as goal

pub loop-c-init : goal.loop-c-init
loop-c-init c = copied_start _ _ _ (omega (arith, c.requires, count_length 0 container_limit))

pub loop-c-preserved : goal.loop-c-preserved
loop-c-preserved c =
    copied_next _ _ _ _ _ c.loop-c.invariant _ _ (omega arith) (omega (arith, c.loop-c-test.true, count_length 0 container_limit))
    (sym (count_at 0 container_limit _ c.loop-c-test.true ∙ zero-add _))

pub returns : goal.returns
returns c =
    copied_all _ _ _ _ c.loop-c.invariant (count_length 0 container_limit ∙ sym c.requires) (omega (arith, c.loop-c-test.false, c.loop-c.invariant.long, c.requires))
