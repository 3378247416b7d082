-- A path that no note is of is noted behind them.
use Prim.Native.Nat.{◌-◌}
use mathlib.Core.Path.{◌≡◌, sym, ap, ◌∙◌}
use lib.ListN.{take}
use native.Mathlib.Omega.{arith}
use native.Mathlib.Nat.{add-sub_cancel_left}
use Rattle.profiles.specs.Notes.{PathAt, noted_paths, noted_place}
use Rattle.profiles.specs.Marks.{with_mark}
use Rattle.profiles.proofs.NoteLaws.{noted_small, known_note, new_note}
use Rattle.profiles.proofs.HashMarks.{unnoted}
use Rattle.profiles.proofs.notes.note_path.Goals as goal

pub find_path-place-requires : goal.find_path-place-requires
find_path-place-requires c =
    let z : c.args.count - 0 ≡ c.args.count = omega arith in
    let here : PathAt c.args.text.now c.args.at c.args.length c.path_hash-hash.result
    = record { good = c.requires.0.good; fits = c.requires.0.fits; hashed = (rw add-sub_cancel_left at c.path_hash-hash.ensures) } in (
      here,
      rw z c.requires.0.noted,
      rw z (λ h. unnoted c.args.text.now (take c.args.count c.args.notes.now) c.args.marks.now c.args.at c.args.length
          c.path_hash-hash.result here c.requires.0.noted c.requires.1.hashes (sym c.mark-possible.ensures.0 ∙ h)),
    )

pub returns-then-place-count : goal.returns-then-place-count
unfolding noted_paths noted_place
returns-then-place-count c = (
  (
      let z : c.args.count - 0 ≡ c.args.count = omega arith in
      rw z at c.find_path-place.ensures),
  known_note c.args.text.now c.args.notes.now c.args.count c.args.at c.args.length c.requires.0 _
      ((
      let z : c.args.count - 0 ≡ c.args.count = omega arith in
      rw z at c.find_path-place.ensures)) c.if-place-count.true,
  c.mark-possible.ensures.1 ∙ ap (with_mark c.args.marks.now) ((rw add-sub_cancel_left at c.path_hash-hash.ensures)),
)

pub overflow_mul-notes : goal.overflow_mul-notes
overflow_mul-notes c =
    omega (
      arith,
      noted_small c.args.text.now c.args.notes.now c.args.count c.args.at c.args.length c.requires.0 _ ((rw add-sub_cancel_left at c.path_hash-hash.ensures)),
    )

pub overflow_add-notes : goal.overflow_add-notes
overflow_add-notes c =
    omega (
      arith,
      c.requires.0.place,
      noted_small c.args.text.now c.args.notes.now c.args.count c.args.at c.args.length c.requires.0 _ ((rw add-sub_cancel_left at c.path_hash-hash.ensures)),
    )

pub returns : goal.returns
unfolding noted_paths noted_place
returns c = (
  (
      let z : c.args.count - 0 ≡ c.args.count = omega arith in
      rw z at c.find_path-place.ensures),
  new_note c.args.text.now c.args.notes.now c.args.count c.args.at c.args.length c.requires.0 _
      ((
      let z : c.args.count - 0 ≡ c.args.count = omega arith in
      rw z at c.find_path-place.ensures)) c.if-place-count.false _ ((rw add-sub_cancel_left at c.path_hash-hash.ensures)),
  c.mark-possible.ensures.1 ∙ ap (with_mark c.args.marks.now) ((rw add-sub_cancel_left at c.path_hash-hash.ensures)),
)
