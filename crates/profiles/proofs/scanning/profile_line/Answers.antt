-- The parts of the line are tested one after the other.
use Prim.Native.Nat.{◌+◌}
use mathlib.Core.Path.{refl}
use native.Mathlib.Omega.{arith}
use Rattle.fields.specs.Ascii.{ascii}
use Rattle.lists.proofs.Bools.{passes_test, fails_test}
use Rattle.profiles.specs.Profiles.{profile_word, profile_end}
use Rattle.profiles.proofs.LineScans.{starts_room, path_room, profile_no_word, profile_no_path, profile_no_end, profile_scanned}
use Rattle.profiles.proofs.scanning.profile_line.Goals as goal

pub returns-then-not-starts : goal.returns-then-not-starts
unfolding profile_word ascii
returns-then-not-starts c =
    profile_no_word c.args.text.now c.args.at _ c.requires.1 refl (fails_test c.starts.ensures c.if-not-starts.true-raw)

pub path_end-end-requires : goal.path_end-end-requires
unfolding ascii profile_word
path_end-end-requires c = (starts_room profile_word c.args.text.now c.args.at (passes_test c.starts.ensures c.if-not-starts.false-raw)
    c.requires.0)

pub returns-then-not-path_good : goal.returns-then-not-path_good
unfolding profile_word ascii
returns-then-not-path_good c =
    profile_no_path c.args.text.now c.args.at _ c.requires.1 c.path_end-end.ensures
    (passes_test c.starts.ensures c.if-not-starts.false-raw)
    (fails_test c.path_good.ensures c.if-not-path_good.true-raw)

pub starts-requires-2 : goal.starts-requires-2
unfolding ascii profile_word
starts-requires-2 c =
    omega (
      arith,
      c.path_end-end.ensures,
      path_room c.args.text.now (c.args.at + 8) ((starts_room profile_word c.args.text.now c.args.at (passes_test c.starts.ensures c.if-not-starts.false-raw)
          c.requires.0)),
    )

pub returns-then-not-starts-2 : goal.returns-then-not-starts-2
unfolding profile_word profile_end ascii
returns-then-not-starts-2 c =
    profile_no_end c.args.text.now c.args.at _ c.requires.1 c.path_end-end.ensures
    (passes_test c.starts.ensures c.if-not-starts.false-raw) (passes_test c.path_good.ensures c.if-not-path_good.false-raw)
    (fails_test c.starts-2.ensures c.if-not-starts-2.true-raw)

pub overflow_add-result : goal.overflow_add-result
unfolding ascii profile_word
overflow_add-result c =
    omega (
      arith,
      c.path_end-end.ensures,
      path_room c.args.text.now (c.args.at + 8) ((starts_room profile_word c.args.text.now c.args.at (passes_test c.starts.ensures c.if-not-starts.false-raw)
          c.requires.0)),
    )

pub returns : goal.returns
unfolding profile_word profile_end ascii
returns c =
    profile_scanned c.args.text.now c.args.at _ c.requires.1 c.path_end-end.ensures
    (passes_test c.starts.ensures c.if-not-starts.false-raw) (passes_test c.path_good.ensures c.if-not-path_good.false-raw)
    (passes_test c.starts-2.ensures c.if-not-starts-2.false-raw)
