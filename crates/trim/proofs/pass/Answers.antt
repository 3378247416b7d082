use Prim.Native.Nat.{◌+◌}
use mathlib.Core.Path.{sym, ap, ◌∙◌}
use native.Mathlib.Omega.{arith}
use borrow.Author.Tests.{not-true, not-false}
use Rattle.lists.specs.Lists.{every}
use Rattle.trim.specs.Trims.{cut_counts}
use Rattle.trim.specs.Replays.{in_trace}
use Rattle.trim.proofs.PassLaws.{passes_start, passes_drop, passes_keep, passes_end, next_fits, rest_fits, part_is}
use borrow.Author.Rules.{rules}
use Rattle.trim.proofs.pass.Goals as goal
use Rattle.trim.proofs.pass.Goals.{then-not-counts_behind, else-not-counts_behind}

pub loop-i-init : goal.loop-i-init
loop-i-init c = passes_start _ _ _ _ _ _ _ c.requires

pub bounds-positions-i : goal.bounds-positions-i
bounds-positions-i c = omega (arith, c.loop-i.invariant.room, c.loop-i.invariant.long)

pub slice_bounds-counts_behind-end : goal.slice_bounds-counts_behind-end
slice_bounds-counts_behind-end c = omega (arith, c.loop-i.invariant.room, c.loop-i.invariant.long)

pub counts_behind-requires : goal.counts_behind-requires
counts_behind-requires c = (
  c.loop-i.invariant.paired,
  ap (every (in_trace c.args.trace.now)) (part_is c.args.n (c.loop-i.i + 1) c.loop-i.positions)
      ∙ rest_fits _ _ _ _ _ _ _ _ _ _ _ c.loop-i.invariant c.loop-i-test.true,
  c.loop-i.invariant.last_fits,
  c.loop-i.invariant.small,
)

pub keep-requires : goal.keep-requires
keep-requires c =
    next_fits _ _ _ _ _ _ _ _ _ _ _ c.loop-i.invariant c.loop-i-test.true

pub loop-i-preserved : goal.loop-i-preserved
loop-i-preserved c =
    let inv = c.loop-i.invariant in
    let told = c.counts_behind.ensures.0
    ∙ ap (cut_counts c.loop-i.before c.args.trace.now c.args.last) (part_is c.args.n (c.loop-i.i + 1) c.loop-i.positions) in
    elim c.if-not-counts_behind.branch [
      | then-not-counts_behind w ↦
          rw (w.before-is, w.positions-is, w.kept-is) (passes_keep _ _ _ _ _ _ _ _ _ _ _ inv c.loop-i-test.true told
          (not-true _ w.if-not-counts_behind.true-raw) w.keep.ensures (search rules) c.counts_behind.ensures.1)
      | else-not-counts_behind w ↦
          rw (w.before-is, w.positions-is, w.kept-is) (passes_drop _ _ _ _ _ _ _ _ _ _ _ inv c.loop-i-test.true told
          (not-false _ w.if-not-counts_behind.false-raw) c.counts_behind.ensures.1)
    ]

pub shape_of-before : goal.shape_of-before
shape_of-before c = c.loop-i.invariant.long_before

pub shape_of-work : goal.shape_of-work
shape_of-work c = sym c.loop-i.invariant.paired.even ∙ (c.loop-i.invariant.long_before ∙ c.requires.paired.even)

pub returns : goal.returns
returns c = passes_end _ _ _ _ _ _ _ _ _ _ _ c.loop-i.invariant c.loop-i-test.false
