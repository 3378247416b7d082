-- Two rows: the common owner, then the words composed.
use native.Mathlib.Omega.{arith}
use Rattle.image.specs.Normal.{use_at}
use Rattle.image.specs.Image.{policy_in}
use Rattle.composition.proofs.UseRows.{use_short, use_is_normal, set_long, put_long, row_lent, set_lent, rows_composed}
use mathlib.Core.Path.{sym, ◌∙◌}
use Rattle.composition.proofs.put_composed.Goals as goal

pub slice_bounds-compose_words-end : goal.slice_bounds-compose_words-end
slice_bounds-compose_words-end c =
    omega (
      arith,
      set_long (use_at (policy_in c.args.first.bytes.now) c.args.i)
          (use_short c.args.first.bytes.now c.args.first.accepted c.args.i c.requires.1) c.put_use.ensures c.common_owner.result,
    )

pub compose_words-requires : goal.compose_words-requires
compose_words-requires c =
    let p =
    set_lent (use_at (policy_in c.args.first.bytes.now) c.args.i)
    (use_short c.args.first.bytes.now c.args.first.accepted c.args.i c.requires.1)
    (use_is_normal c.args.first.bytes.now c.args.first.accepted c.args.i c.requires.1) c.put_use.ensures c.common_owner.result in
    let q =
    row_lent (use_at (policy_in c.args.second.bytes.now) c.args.j)
    (use_short c.args.second.bytes.now c.args.second.accepted c.args.j c.requires.2)
    (use_is_normal c.args.second.bytes.now c.args.second.accepted c.args.j c.requires.2) c.put_use-2.ensures in
    (p.0, q.0, p.1, q.1)

pub shape_of-row : goal.shape_of-row
shape_of-row c =
    put_long (use_at (policy_in c.args.first.bytes.now) c.args.i)
    (use_short c.args.first.bytes.now c.args.first.accepted c.args.i c.requires.1) c.put_use.ensures c.common_owner.result
    c.compose_words.new.words c.compose_words.ensures.long ∙ sym c.requires.0

pub returns : goal.returns
returns c =
    rows_composed _ (use_at (policy_in c.args.first.bytes.now) c.args.i) (use_at (policy_in c.args.second.bytes.now) c.args.j)
    (use_short c.args.first.bytes.now c.args.first.accepted c.args.i c.requires.1)
    (use_short c.args.second.bytes.now c.args.second.accepted c.args.j c.requires.2) c.put_use.ensures c.put_use-2.ensures
    c.common_owner.ensures c.compose_words.ensures
