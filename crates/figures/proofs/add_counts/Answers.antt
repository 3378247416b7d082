use Rattle.std.proofs.Common.{sym, ◌∙◌}
use Rattle.figures.specs.Counters.{counts_with}
use Rattle.figures.proofs.CountedParts.{changing_start, counts_next, changing_end}
use Rattle.figures.proofs.add_counts.Goals as goal

pub loop-test-init : goal.loop-test-init
loop-test-init c = changing_start _ _ _ c.requires

pub loop-test-preserved : goal.loop-test-preserved
loop-test-preserved c =
    let loop = c.loop-test in
    let taken = c.loop-test-test.true in
    counts_next c.args.answer _ loop.counts _ loop.test loop.invariant taken c.add_count.ensures

pub shape_of-counts : goal.shape_of-counts
shape_of-counts c = c.loop-test.invariant.long ∙ sym c.requires

pub returns : goal.returns
unfolding counts_with
returns c = changing_end _ _ _ _ _ c.loop-test.invariant c.loop-test-test.false
