-- A rule with a free place is the first of its class; otherwise an equal rule before it, or the search, tells the class.
use Prim.Native.Nat.{◌-◌}
use native.Mathlib.Omega.{arith}
use mathlib.Core.Path.{sym, ◌∙◌}
use lib.ListN.{get_or}
use Rattle.normaliser.proofs.FirstEqual.{words_part}
use Rattle.normaliser.proofs.HashLaws.{hashed_new, hashed_old, class_new, class_old, class_sought}
use Rattle.normaliser.proofs.class_of.Goals as goal

pub slot-h-requires : goal.slot-h-requires
slot-h-requires c = (c.requires.0, c.requires.2)

pub overflow_cast-j : goal.overflow_cast-j
overflow_cast-j c = omega (arith, c.type_inv.slots c.slot-h.result)

pub returns-then-j-eq0 : goal.returns-then-j-eq0
returns-then-j-eq0 c =
    let slot = c.slot-h in (
      class_new c.args.forms.now c.args.slots.now c.args.k slot.result c.requires.2 slot.ensures.0
          slot.ensures.1 c.if-j-eq0.true c.requires.0 _ (rw (words_part c.args.forms.now c.args.k) at c.class_by.ensures),
      hashed_new
          c.args.forms.now c.args.slots.now c.args.k slot.result c.requires.2 slot.ensures.0
          slot.ensures.1 c.if-j-eq0.true,
    )

pub overflow_mul-b : goal.overflow_mul-b
overflow_mul-b c = omega (arith, c.requires.2.inside c.slot-h.result, c.requires.0)

pub overflow_add-b : goal.overflow_add-b
overflow_add-b c =
    let slot = c.slot-h in
    omega (arith, c.requires.2.inside slot.result, c.requires.0)

pub offset_bounds-forms-b : goal.offset_bounds-forms-b
offset_bounds-forms-b c =
    let slot = c.slot-h in
    omega (arith, c.requires.2.inside slot.result, c.requires.0)

pub slice_bounds-same-end-2 : goal.slice_bounds-same-end-2
slice_bounds-same-end-2 c =
    let slot = c.slot-h in
    omega (arith, c.requires.2.inside slot.result, c.requires.0)

pub offset_bounds-classes-j : goal.offset_bounds-classes-j
offset_bounds-classes-j c =
    let slot = c.slot-h in
    omega (arith, c.requires.2.inside slot.result, c.requires.0)

pub bounds-classes-j : goal.bounds-classes-j
bounds-classes-j c =
    let slot = c.slot-h in
    omega (arith, c.requires.2.inside slot.result, c.requires.0, c.requires.1.room)

pub overflow_cast-result : goal.overflow_cast-result
overflow_cast-result c =
    let slot = c.slot-h in
    omega (arith, c.type_inv.classes (get_or c.args.slots.now slot.result 0 - 1))

pub returns-then-same : goal.returns-then-same
returns-then-same c =
    let slot = c.slot-h in
    let if1 = c.if-j-eq0 in (
      class_old c.args.forms.now c.args.classes.now (get_or c.args.slots.now slot.result 0 - 1) c.args.k c.requires.1 (omega (
        arith,
        c.requires.2.inside
            slot.result,
        c.requires.0,
        if1.false,
      )) (sym (rw (
        words_part c.args.forms.now c.args.k,
        words_part c.args.forms.now (get_or c.args.slots.now
            slot.result 0 - 1),
      ) at (sym c.same.ensures ∙ c.if-same.true))),
      hashed_old c.args.forms.now c.args.slots.now c.args.k
          slot.result c.requires.2 slot.ensures.0 if1.false,
    )

pub returns : goal.returns
returns c =
    let slot = c.slot-h in
    let if1 = c.if-j-eq0 in (
      class_sought c.args.forms.now c.args.k _ _ (rw (words_part c.args.forms.now c.args.k) at c.class_by-2.ensures) c.first_same.ensures,
      hashed_old
          c.args.forms.now c.args.slots.now c.args.k slot.result c.requires.2 slot.ensures.0
          if1.false,
    )
