use mathlib.Core.Path.{sym, ◌∙◌}
use Rattle.confinement.proofs.LoopLaws.{choosing_start, choosing_keep, choosing_skip, choosing_end, all_by, kept_by, skipped_by, none_by}
use Rattle.confinement.proofs.choose.Goals.{then-meets, else-meets}
use Rattle.confinement.proofs.choose.Goals as goal

pub loop-j-init : goal.loop-j-init
loop-j-init c =
    choosing_start _ _ _ _ c.requires.2 c.requires.1
    (all_by c.args.wanted c.args.more c.args.modes.now c.args.k c.args.runs.now)

pub loop-j-preserved : goal.loop-j-preserved
loop-j-preserved c =
    elim c.if-meets.branch [
      | then-meets w ↦ rw (w.words-is, w.count-is) (choosing_keep c.loop-j.invariant c.loop-j-test.true _ _ (kept_by c.args.wanted c.args.more
          c.args.modes.now c.args.k c.args.runs.now _ c.loop-j-test.true (sym c.meets.ensures ∙ w.if-meets.true)))
      | else-meets w ↦ rw (w.words-is, w.count-is) (choosing_skip c.loop-j.invariant c.loop-j-test.true _ (skipped_by c.args.wanted c.args.more
          c.args.modes.now c.args.k c.args.runs.now _ c.loop-j-test.true (sym c.meets.ensures ∙ w.if-meets.false)))
    ]

pub returns : goal.returns
returns c =
    choosing_end c.loop-j.invariant
    (none_by c.args.wanted c.args.more c.args.modes.now c.args.k c.args.runs.now _ c.loop-j-test.false)
