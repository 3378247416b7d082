-- A class that is restricted and has no place takes the next one; otherwise the tables stay.
use native.Mathlib.Omega.{arith}
use Rattle.normaliser.proofs.FirstUse.{place_none, place_known, place_unlimited, place_old, place_room, place_fits, place_taken, place_ordered, class_small}
use Rattle.normaliser.proofs.place.Goals as goal

pub returns-then-k-eq-UNRESTRICTED_NUMBER : goal.returns-then-k-eq-UNRESTRICTED_NUMBER
returns-then-k-eq-UNRESTRICTED_NUMBER c = (place_none c.requires c.if-k-eq-UNRESTRICTED_NUMBER.true, c.requires.ordered)

pub offset_bounds-classes-k : goal.offset_bounds-classes-k
offset_bounds-classes-k c = omega (arith, place_known c.requires c.if-k-eq-UNRESTRICTED_NUMBER.false)

pub bounds-classes-k : goal.bounds-classes-k
bounds-classes-k c = place_known c.requires c.if-k-eq-UNRESTRICTED_NUMBER.false

pub overflow_cast-v : goal.overflow_cast-v
overflow_cast-v c = omega (arith, c.type_inv.classes c.args.k)

pub returns-then-v-eq-UNRESTRICTED_NUMBER : goal.returns-then-v-eq-UNRESTRICTED_NUMBER
returns-then-v-eq-UNRESTRICTED_NUMBER c = (place_unlimited c.requires c.if-k-eq-UNRESTRICTED_NUMBER.false c.if-v-eq-UNRESTRICTED_NUMBER.true, c.requires.ordered)

pub offset_bounds-ranks-v : goal.offset_bounds-ranks-v
offset_bounds-ranks-v c = omega (arith, class_small c.requires c.if-k-eq-UNRESTRICTED_NUMBER.false c.if-v-eq-UNRESTRICTED_NUMBER.false)

pub bounds-ranks-v : goal.bounds-ranks-v
bounds-ranks-v c = class_small c.requires c.if-k-eq-UNRESTRICTED_NUMBER.false c.if-v-eq-UNRESTRICTED_NUMBER.false

pub returns-then-ranks-v-ne0 : goal.returns-then-ranks-v-ne0
returns-then-ranks-v-ne0 c =
    (place_old c.requires c.if-k-eq-UNRESTRICTED_NUMBER.false c.if-v-eq-UNRESTRICTED_NUMBER.false c.if-ranks-v-ne0.true, c.requires.ordered)

pub overflow_cast-order : goal.overflow_cast-order
overflow_cast-order c = omega (arith, c.type_inv.classes c.args.k)

pub bounds-order-m : goal.bounds-order-m
bounds-order-m c =
    place_room c.requires c.if-k-eq-UNRESTRICTED_NUMBER.false c.if-v-eq-UNRESTRICTED_NUMBER.false c.if-ranks-v-ne0.false

pub overflow_cast-ranks : goal.overflow_cast-ranks
overflow_cast-ranks c =
    omega (
      arith,
      place_fits c.requires c.if-k-eq-UNRESTRICTED_NUMBER.false c.if-v-eq-UNRESTRICTED_NUMBER.false c.if-ranks-v-ne0.false,
    )

pub offset_bounds-ranks-v-2 : goal.offset_bounds-ranks-v-2
offset_bounds-ranks-v-2 c = omega (arith, class_small c.requires c.if-k-eq-UNRESTRICTED_NUMBER.false c.if-v-eq-UNRESTRICTED_NUMBER.false)

pub bounds-ranks-v-2 : goal.bounds-ranks-v-2
bounds-ranks-v-2 c = class_small c.requires c.if-k-eq-UNRESTRICTED_NUMBER.false c.if-v-eq-UNRESTRICTED_NUMBER.false

pub returns : goal.returns
returns c =
    let some = c.if-k-eq-UNRESTRICTED_NUMBER.false in
    let limited = c.if-v-eq-UNRESTRICTED_NUMBER.false in
    (place_taken c.requires some limited c.if-ranks-v-ne0.false, place_ordered c.requires some limited c.if-ranks-v-ne0.false)
