-- `trim::kept_positions`: the whole trace is tried, and then trimmed.
use native.Mathlib.Omega.{arith}
use mathlib.Core.Path.{refl}
use lib.ListN.{length-set}
use borrow.Author.Tests.{not-true, not-false}
use Rattle.trim.proofs.WholeTraces.{whole_is}
use Rattle.trim.proofs.TrimmedTraces.{last_small, last_fits_lem, part_fits, found_none, trimmable, found_some}
use borrow.Author.Rules.{rules}
use Rattle.trim.proofs.kept_positions.Goals as goal

pub overflow_sub-last : goal.overflow_sub-last
overflow_sub-last c = omega (arith, (whole_is _ c.requires.1).some)

pub slice_bounds-cut_counts-end-2 : goal.slice_bounds-cut_counts-end-2
slice_bounds-cut_counts-end-2 c =
    omega (arith, last_small _ _ _ _ c.requires.0 c.requires.1 refl c.number.ensures, c.requires.2)

pub cut_counts-requires : goal.cut_counts-requires
cut_counts-requires c = (
  part_fits _ _ _ _ c.requires.0 c.requires.1 refl c.number.ensures,
  last_fits_lem _ _ _ _ c.requires.0 c.requires.1 refl c.number.ensures,
  last_small _ _ _ _ c.requires.0 c.requires.1 refl c.number.ensures,
)

pub returns-then-not-cut_counts : goal.returns-then-not-cut_counts
returns-then-not-cut_counts c =
    found_none _ _ _ _ c.requires.0 c.requires.1 refl c.number.ensures _ c.start.ensures.1 (search rules) c.cut_counts.ensures (not-true _ c.if-not-cut_counts.true-raw)

pub named_rows-wide-requires : goal.named_rows-wide-requires
named_rows-wide-requires c = (whole_is _ c.requires.1).even

pub passes-kept-requires : goal.passes-kept-requires
passes-kept-requires c =
    trimmable _ _ _ _ c.requires.0 c.requires.1 refl c.number.ensures _ c.start.ensures.1 (search rules) c.cut_counts.ensures _ _
    (search rules) (not-false _ c.if-not-cut_counts.false-raw) c.named_rows-wide.ensures (search rules)

pub overflow_cast-positions : goal.overflow_cast-positions
overflow_cast-positions c =
    omega (arith, last_small _ _ _ _ c.requires.0 c.requires.1 refl c.number.ensures)

pub bounds-positions-kept : goal.bounds-positions-kept
bounds-positions-kept c =
    omega (arith, c.passes-kept.ensures.fewer, last_small _ _ _ _ c.requires.0 c.requires.1 refl c.number.ensures, c.requires.2)

pub shape_of-positions : goal.shape_of-positions
shape_of-positions c = simp length-set (omega arith)

pub returns : goal.returns
returns c =
    found_some _ _ _ _ c.requires.0 c.requires.1 refl c.number.ensures _ c.start.ensures.1 (search rules) c.cut_counts.ensures _ _
    (not-false _ c.if-not-cut_counts.false-raw) (search rules) c.passes-kept.ensures
