use mathlib.Core.Path.{refl}
use borrow.Author.Tests.{eq-eqb, ne_eqb}
use Rattle.confinement.proofs.LoopLaws.{choosing_start, choosing_keep, choosing_skip, choosing_end, kept_at, skipped_at, none_at}
use Rattle.confinement.proofs.choose_own.Goals.{then-own-j, else-own-j}
use Rattle.confinement.proofs.choose_own.Goals as goal

pub loop-j-init : goal.loop-j-init
loop-j-init c = choosing_start _ _ _ _ c.requires.2 c.requires.0 refl

pub loop-j-preserved : goal.loop-j-preserved
loop-j-preserved c =
    elim c.if-own-j.branch [
      | then-own-j w ↦ rw (w.words-is, w.count-is)
          (choosing_keep c.loop-j.invariant c.loop-j-test.true _ _ (kept_at _ _ _ _ c.requires.1 c.loop-j-test.true (eq-eqb _ _ w.if-own-j.true)))
      | else-own-j w ↦ rw (w.words-is, w.count-is)
          (choosing_skip c.loop-j.invariant c.loop-j-test.true _ (skipped_at _ _ _ _ c.requires.1 c.loop-j-test.true (ne_eqb _ _ w.if-own-j.false)))
    ]

pub returns : goal.returns
returns c = choosing_end c.loop-j.invariant (none_at _ _ _ _ c.requires.1 c.loop-j-test.false)
