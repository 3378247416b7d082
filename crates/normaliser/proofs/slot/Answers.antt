-- The place of the hash is free, has a rule that is alike, or another one: then the place opposite is taken.
use Prim.Native.Nat.{◌-◌}
use native.Mathlib.Omega.{arith}
use mathlib.Core.Path.{sym, ◌∙◌}
use lib.ListN.{get_or}
use Rattle.normaliser.proofs.FirstEqual.{words_part}
use Rattle.normaliser.proofs.HashLaws.{slot_free, slot_alike, slot_opposite}
use Rattle.normaliser.proofs.slot.Goals as goal

pub overflow_cast-j : goal.overflow_cast-j
overflow_cast-j c = omega (arith, c.type_inv.slots c.hash-h.result)

pub returns-then-j-eq0 : goal.returns-then-j-eq0
returns-then-j-eq0 c =
    let hash = c.hash-h in (
      slot_free c.args.forms.now c.args.slots.now _ hash.result (rw (words_part c.args.forms.now c.args.k) at hash.ensures.0) c.if-j-eq0.true,
      hash.ensures.1,
    )

pub overflow_mul-b : goal.overflow_mul-b
overflow_mul-b c = omega (arith, c.requires.1.inside c.hash-h.result, c.requires.0)

pub overflow_add-b : goal.overflow_add-b
overflow_add-b c =
    let hash = c.hash-h in
    omega (arith, c.requires.1.inside hash.result, c.requires.0)

pub offset_bounds-forms-b : goal.offset_bounds-forms-b
offset_bounds-forms-b c =
    let hash = c.hash-h in
    omega (arith, c.requires.1.inside hash.result, c.requires.0)

pub slice_bounds-alike-end-2 : goal.slice_bounds-alike-end-2
slice_bounds-alike-end-2 c =
    let hash = c.hash-h in
    omega (arith, c.requires.1.inside hash.result, c.requires.0)

pub returns-then-alike : goal.returns-then-alike
returns-then-alike c =
    let hash = c.hash-h in
    let if1 = c.if-j-eq0 in (
      slot_alike c.args.forms.now c.args.slots.now _ hash.result
          (rw (words_part c.args.forms.now c.args.k) at hash.ensures.0) if1.false
          (rw (
            words_part c.args.forms.now c.args.k,
            words_part c.args.forms.now (get_or c.args.slots.now hash.result 0 - 1),
          ) at (sym c.alike.ensures ∙ c.if-alike.true)),
      hash.ensures.1,
    )

pub returns : goal.returns
returns c =
    let hash = c.hash-h in
    let if1 = c.if-j-eq0 in (
      slot_opposite c.args.forms.now c.args.slots.now _ hash.result
          (rw (words_part c.args.forms.now c.args.k) at hash.ensures.0) if1.false
          (rw (
            words_part c.args.forms.now c.args.k,
            words_part c.args.forms.now (get_or c.args.slots.now hash.result 0 - 1),
          ) at (sym c.alike.ensures ∙ c.if-alike.false)),
      omega (arith, hash.ensures.1),
    )
