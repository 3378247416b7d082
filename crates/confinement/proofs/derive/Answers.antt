-- `confinement::derive`. Each case is the definition's; the tables of a good text tell its policy (`derive_done`).
use borrow.Author.Rules.{rules}
use mathlib.Core.Path.{refl, sym}
use Rattle.profiles.proofs.NumberTable.{judged_of}
use Rattle.confinement.specs.Images.{profiles_in}
use Rattle.confinement.proofs.DeriveLaws.{derive_short, derive_broken, derive_many, derive_done, tabulated, words_lent}
use Rattle.confinement.proofs.derive.Goals as goal

pub returns-then-out-lt-OUTPUT_BOUND : goal.returns-then-out-lt-OUTPUT_BOUND
returns-then-out-lt-OUTPUT_BOUND c = let told = derive_short _ _ c.if-out-lt-OUTPUT_BOUND.true in (told.0, told.1, tt, told.2)

pub returns-in_default : goal.returns-in_default
returns-in_default c =
    let judged = judged_of _ _ _ (rw c.in_default.is at c.scan_text.ensures) in
    let told = derive_broken _ _ c.if-out-lt-OUTPUT_BOUND.false (sym judged.right) in
    (told.0, told.1, tt, told.2)

pub slice_bounds-fill_tables-end : goal.slice_bounds-fill_tables-end
slice_bounds-fill_tables-end c = (judged_of _ _ _ (rw c.in-Some.is at c.scan_text.ensures)).room refl

pub fill_tables-counts-requires : goal.fill_tables-counts-requires
fill_tables-counts-requires c =
    let judged = judged_of _ _ _ (rw c.in-Some.is at c.scan_text.ensures) in
    (sym judged.right, words_lent _ _ _ _ judged, search rules, search rules, search rules, refl)

pub returns-then-n-gt-PATHS : goal.returns-then-n-gt-PATHS
returns-then-n-gt-PATHS c =
    let judged = judged_of _ _ _ (rw c.in-Some.is at c.scan_text.ensures) in
    let told = derive_many _ _ c.if-out-lt-OUTPUT_BOUND.false (sym judged.right) (c.fill_tables-counts.ensures.many c.if-n-gt-PATHS.true) in
    (told.0, told.1, tt, told.2)

pub write_tables-requires : goal.write_tables-requires
write_tables-requires c = (
  record {
    profiles = profiles_in c.args.text.now;
    tables = tabulated (c.fill_tables-counts.ensures.paths c.if-n-gt-PATHS.false)
        (c.fill_tables-counts.ensures.programs c.if-n-gt-PATHS.false);
  },
  c.if-out-lt-OUTPUT_BOUND.false,
)

pub returns : goal.returns
returns c =
    let judged = judged_of _ _ _ (rw c.in-Some.is at c.scan_text.ensures) in
    let told = derive_done c.args.text.now _ c.if-out-lt-OUTPUT_BOUND.false (sym judged.right) _
    _ _ _ (tabulated (c.fill_tables-counts.ensures.paths c.if-n-gt-PATHS.false) (c.fill_tables-counts.ensures.programs c.if-n-gt-PATHS.false))
    c.write_tables.ensures in
    (told.0, told.1, c.write_tables.ensures.short, told.2)
