-- The parts of the line are tested one after the other.
use Prim.Native.Nat.{◌+◌}
use mathlib.Core.Path.{refl, ap}
use native.Mathlib.Omega.{arith}
use Rattle.fields.specs.Ascii.{ascii}
use Rattle.lists.proofs.Bools.{passes_test, fails_test}
use Rattle.profiles.specs.Profiles.{modes_start, modes_end}
use Rattle.profiles.specs.Scanning.{modes_scan, modes_at}
use Rattle.profiles.specs.declared.ScannedModes.{ScannedModes}
use Rattle.profiles.proofs.LineScans.{starts_room, path_room, modes_room, entry_no_path, entry_no_space, entry_no_mode, entry_no_end, entry_scanned}
use Rattle.profiles.proofs.scanning.entry_line.Goals as goal

pub returns-then-not-path_good : goal.returns-then-not-path_good
returns-then-not-path_good c =
    entry_no_path c.args.text.now c.args.at _ _ c.requires.1 c.requires.2 c.path_end-end.ensures
    refl (fails_test c.path_good.ensures c.if-not-path_good.true-raw)

pub starts-requires : goal.starts-requires
starts-requires c = (omega (arith, c.path_end-end.ensures, path_room c.args.text.now c.args.at c.requires.0))

pub returns-then-not-starts : goal.returns-then-not-starts
unfolding modes_start ascii
returns-then-not-starts c =
    entry_no_space c.args.text.now c.args.at _ _ c.requires.1 c.requires.2 c.path_end-end.ensures refl
    (passes_test c.path_good.ensures c.if-not-path_good.false-raw) (fails_test c.starts.ensures c.if-not-starts.true-raw)

pub overflow_add-first : goal.overflow_add-first
overflow_add-first c = omega (arith, c.path_end-end.ensures, path_room c.args.text.now c.args.at c.requires.0)

pub modes_at-modes-requires : goal.modes_at-modes-requires
unfolding ascii modes_start
modes_at-modes-requires c = (starts_room modes_start c.args.text.now c.path_end-end.result
    (passes_test c.starts.ensures c.if-not-starts.false-raw) ((omega (arith, c.path_end-end.ensures, path_room c.args.text.now c.args.at c.requires.0))))

pub returns-then-next-first : goal.returns-then-next-first
unfolding modes_start ascii modes_at modes_scan
returns-then-next-first c =
    entry_no_mode c.args.text.now c.args.at _ _ c.requires.1 c.requires.2 c.path_end-end.ensures
    ((ap (λ (m : ScannedModes). m.next) c.modes_at-modes.ensures))
    (passes_test c.path_good.ensures c.if-not-path_good.false-raw)
    (passes_test c.starts.ensures c.if-not-starts.false-raw) c.if-next-first.true

pub starts-requires-2 : goal.starts-requires-2
unfolding ascii modes_at modes_scan modes_start
starts-requires-2 c = (
    omega (
      arith,
      (ap (λ (m : ScannedModes). m.next) c.modes_at-modes.ensures),
      modes_room c.args.text.now (c.path_end-end.result + 1) ((starts_room modes_start c.args.text.now c.path_end-end.result
          (passes_test c.starts.ensures c.if-not-starts.false-raw) ((omega (arith, c.path_end-end.ensures, path_room c.args.text.now c.args.at c.requires.0))))),
    ))

pub returns-then-not-starts-2 : goal.returns-then-not-starts-2
unfolding modes_start modes_end ascii modes_at modes_scan
returns-then-not-starts-2 c =
    entry_no_end c.args.text.now c.args.at _ _ c.requires.1 c.requires.2 c.path_end-end.ensures ((ap (λ (m : ScannedModes). m.next) c.modes_at-modes.ensures))
    (passes_test c.path_good.ensures c.if-not-path_good.false-raw) (passes_test c.starts.ensures c.if-not-starts.false-raw)
    c.if-next-first.false (fails_test c.starts-2.ensures c.if-not-starts-2.true-raw)

pub overflow_add-result : goal.overflow_add-result
unfolding ascii modes_at modes_scan modes_start
overflow_add-result c = omega (
  arith,
  (ap (λ (m : ScannedModes). m.next) c.modes_at-modes.ensures),
  modes_room c.args.text.now (c.path_end-end.result + 1) ((starts_room modes_start c.args.text.now c.path_end-end.result
      (passes_test c.starts.ensures c.if-not-starts.false-raw) ((omega (arith, c.path_end-end.ensures, path_room c.args.text.now c.args.at c.requires.0))))),
)

pub returns : goal.returns
unfolding modes_start modes_end ascii modes_at modes_scan
returns c =
    entry_scanned c.args.text.now c.args.at _ _ c.requires.1 c.requires.2 c.path_end-end.ensures
    ((ap (λ (m : ScannedModes). m.next) c.modes_at-modes.ensures))
    (passes_test c.path_good.ensures c.if-not-path_good.false-raw)
    (passes_test c.starts.ensures c.if-not-starts.false-raw) c.if-next-first.false
    (passes_test c.starts-2.ensures c.if-not-starts-2.false-raw)
    _ (ap (λ (m : ScannedModes). m.bits) c.modes_at-modes.ensures)
