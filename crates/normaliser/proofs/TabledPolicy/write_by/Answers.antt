-- The tables, once filled, give the normal image; over 256 places are over 256 rules.
use native.Mathlib.Omega.{arith}
use Prim.Native.Nat.{ℕ, ◌-◌}
use mathlib.Core.Path.{◌≡◌}
use Rattle.normaliser.proofs.FirstUse.{ordered_empty}
use Rattle.normaliser.proofs.TableImage.{both_fit, first_fits, containers_classed, users_classed, noted, tables_writable, answered, over_limit}
use Rattle.normaliser.proofs.TabledPolicy.write_by.Goals as goal

pub classify-requires : goal.classify-requires
classify-requires c =
    (c.requires.0.classes_room, c.requires.0.classes_few, c.requires.0.hashed)

pub place_containers-first-requires : goal.place_containers-first-requires
place_containers-first-requires c =
    let told = c.classify.ensures in (
      containers_classed c.args.self.now.containers.now c.args.self.now.users.now c.args.self.now.forms.now c.args.self.now.tabled _ told _ c.requires.0.ranks_room,
      omega (arith, first_fits c.args.self.now.containers.now c.args.self.now.users.now c.args.self.now.forms.now c.args.self.now.tabled _ told, c.requires.0.order_room),
      ordered_empty _ _ c.requires.0.order_few c.requires.0.zero,
    )

pub place_users-m-requires : goal.place_users-m-requires
place_users-m-requires c =
    let told = c.classify.ensures in
    let first = c.place_containers-first.ensures in (
      users_classed c.args.self.now.containers.now c.args.self.now.users.now c.args.self.now.forms.now c.args.self.now.tabled _ told _
          (omega (arith, c.requires.0.ranks_room, c.place_containers-first.auto.ranks)),
      rw first.0 (omega (
        arith,
        both_fit c.args.self.now.containers.now c.args.self.now.users.now c.args.self.now.forms.now c.args.self.now.tabled _ told,
        c.requires.0.order_room,
        c.place_containers-first.auto.order,
      )),
      first.1,
    )

pub returns-then-m-gt-RULE_LIMIT : goal.returns-then-m-gt-RULE_LIMIT
returns-then-m-gt-RULE_LIMIT c =
    over_limit c.args.self.now.containers.now c.args.self.now.users.now c.args.self.now.forms.now c.args.self.now.tabled ((
    noted c.args.self.now.containers.now c.args.self.now.users.now c.args.self.now.forms.now c.args.self.now.tabled c.classify.ensures
    c.place_containers-first.ensures.0 c.place_users-m.ensures.0 c.place_users-m.ensures.1
    (omega (arith, c.requires.0.ranks_room, c.place_containers-first.auto.ranks, c.place_users-m.auto.ranks)))) _ c.if-m-gt-RULE_LIMIT.true

pub slice_bounds-write_image-end : goal.slice_bounds-write_image-end
slice_bounds-write_image-end c = omega (arith, c.place_users-m.ensures.1.room)

pub write_image-requires : goal.write_image-requires
write_image-requires c =
    let n : ℕ = c.place_users-m.result in
    let z : n - 0 ≡ n = omega arith in
    rw z (tables_writable c.args.self.now.containers.now c.args.self.now.users.now c.args.self.now.forms.now c.args.self.now.tabled ((
    noted c.args.self.now.containers.now c.args.self.now.users.now c.args.self.now.forms.now c.args.self.now.tabled c.classify.ensures
    c.place_containers-first.ensures.0 c.place_users-m.ensures.0 c.place_users-m.ensures.1
    (omega (arith, c.requires.0.ranks_room, c.place_containers-first.auto.ranks, c.place_users-m.auto.ranks)))) _ c.if-m-gt-RULE_LIMIT.false c.requires.1)

pub returns : goal.returns
returns c =
    let n : ℕ = c.place_users-m.result in
    let z : n - 0 ≡ n = omega arith in
    answered c.args.self.now.containers.now c.args.self.now.users.now c.args.self.now.forms.now c.args.self.now.tabled ((
    noted c.args.self.now.containers.now c.args.self.now.users.now c.args.self.now.forms.now c.args.self.now.tabled c.classify.ensures
    c.place_containers-first.ensures.0 c.place_users-m.ensures.0 c.place_users-m.ensures.1
    (omega (arith, c.requires.0.ranks_room, c.place_containers-first.auto.ranks, c.place_users-m.auto.ranks)))) c.if-m-gt-RULE_LIMIT.false
    (rw z at c.write_image.ensures)
