use native.Mathlib.Omega.{arith}
use mathlib.Core.Path.{ap}
use lib.ListN.{length}
use Rattle.confinement.proofs.FilledTables.{scan_start, scan_end, named_fits, line_begun, line_over, line_passed}
use Rattle.confinement.proofs.scan.fill_hinted.Goals as goal

pub loop-word-init : goal.loop-word-init
loop-word-init c =
    (scan_start _ _ _ _ _ _ c.requires.0 c.requires.1 c.requires.2 c.requires.3 c.requires.4 c.requires.5, c.requires.6)

pub place-placed-requires : goal.place-placed-requires
place-placed-requires c =
    let inv = c.loop-word.invariant in
    (inv.0.spans, named_fits _ _ _ _ _ _ _ _ _ inv.0 _ c.named_path-line.ensures c.loop-word-test.true, inv.1)

pub add_line-m-requires : goal.add_line-m-requires
add_line-m-requires c =
    let inv = c.loop-word.invariant.0 in
    (inv.room, inv.own_long, inv.modes_long, line_begun _ _ _ _ _ _ _ _ _ inv _ c.named_path-line.ensures c.loop-word-test.true)

pub shape_of-starts-then-m-gt-PATHS : goal.shape_of-starts-then-m-gt-PATHS
shape_of-starts-then-m-gt-PATHS c =
    omega (arith, c.place-placed.ensures.starts_long, c.requires.2)

pub shape_of-sizes-then-m-gt-PATHS : goal.shape_of-sizes-then-m-gt-PATHS
shape_of-sizes-then-m-gt-PATHS c =
    omega (arith, c.place-placed.ensures.sizes_long, c.requires.3)

pub shape_of-own-then-m-gt-PATHS : goal.shape_of-own-then-m-gt-PATHS
shape_of-own-then-m-gt-PATHS c =
    omega (arith, c.add_line-m.ensures.own_long, c.requires.4)

pub shape_of-modes-then-m-gt-PATHS : goal.shape_of-modes-then-m-gt-PATHS
shape_of-modes-then-m-gt-PATHS c =
    omega (arith, c.add_line-m.ensures.modes_long, ap length c.requires.5)

pub shape_of-hints-then-m-gt-PATHS : goal.shape_of-hints-then-m-gt-PATHS
shape_of-hints-then-m-gt-PATHS c =
    omega (arith, c.place-placed.ensures.hints_long, c.requires.6)

pub returns-then-m-gt-PATHS : goal.returns-then-m-gt-PATHS
returns-then-m-gt-PATHS c =
    line_over _ _ _ _ _ _ _ _ _ c.loop-word.invariant.0 _ c.named_path-line.ensures c.loop-word-test.true _ _ _ _ _ c.place-placed.ensures
    _ _ _ c.add_line-m.ensures c.if-m-gt-PATHS.true _ _ c.too_many.ensures

pub loop-word-preserved : goal.loop-word-preserved
loop-word-preserved c = (
  line_passed _ _ _ _ _ _ _ _ _ c.loop-word.invariant.0 _ c.named_path-line.ensures c.loop-word-test.true _ _ _ _ _ c.place-placed.ensures
      _ _ _ c.add_line-m.ensures c.if-m-gt-PATHS.false,
  c.place-placed.ensures.hints_long,
)

pub shape_of-starts : goal.shape_of-starts
shape_of-starts c =
    omega (arith, c.loop-word.invariant.0.spans.starts_long, c.requires.2)

pub shape_of-sizes : goal.shape_of-sizes
shape_of-sizes c =
    omega (arith, c.loop-word.invariant.0.spans.sizes_long, c.requires.3)

pub shape_of-own : goal.shape_of-own
shape_of-own c =
    omega (arith, c.loop-word.invariant.0.own_long, c.requires.4)

pub shape_of-modes : goal.shape_of-modes
shape_of-modes c =
    omega (arith, c.loop-word.invariant.0.modes_long, ap length c.requires.5)

pub shape_of-hints : goal.shape_of-hints
shape_of-hints c =
    omega (arith, c.loop-word.invariant.1, c.requires.6)

pub returns : goal.returns
returns c = scan_end _ _ _ _ _ _ _ _ _ c.loop-word.invariant.0 c.loop-word-test.false
