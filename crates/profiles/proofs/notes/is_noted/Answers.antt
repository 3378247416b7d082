-- Paths with different hashes differ; those with the same hash have the same length.
use Prim.Native.Nat.{ℕ, ◌+◌, ◌-◌, ◌%◌}
use mathlib.Core.Path.{◌≡◌, ap, ap₂, ◌∙◌}
use Rattle.profiles.specs.Texts.{text_limit}
use lib.ListN.{take, drop}
use native.Mathlib.Nat.{add-sub_cancel_left}
use Rattle.lists.specs.Lists.{same_list}
use Rattle.lists.proofs.Same.{same_pointwise}
use Rattle.profiles.proofs.NoteLaws.{hash_differs, note_fits, note_text}
use Rattle.profiles.proofs.notes.is_noted.Goals as goal

pub returns-then-note-hash : goal.returns-then-note-hash
returns-then-note-hash c = hash_differs c.args.text.now c.args.note c.args.at c.args.length
    _ c.requires.0 c.requires.1 c.if-note-hash.true

pub slice_bounds-eq-end-2 : goal.slice_bounds-eq-end-2
slice_bounds-eq-end-2 c =
    note_fits c.args.text.now c.args.note c.args.at c.args.length _ c.requires.0 c.requires.1 c.if-note-hash.false

pub returns : goal.returns
returns c =
    let text = c.args.text.now in
    let at = c.args.at in
    let n = c.args.length in
    let other = c.args.note % text_limit in
    let a : at + n - at ≡ n = add-sub_cancel_left at n in
    let b : other + n - other ≡ n = add-sub_cancel_left other n in
    c.eq.ensures ∙ same_pointwise _ _
    ∙ ap₂ same_list (ap (λ (k : ℕ). take k (drop at text)) a)
    (ap (λ (k : ℕ). take k (drop other text)) b ∙ note_text text c.args.note at n _ c.requires.0 c.requires.1 c.if-note-hash.false)
