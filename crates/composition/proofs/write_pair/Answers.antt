-- The rows of all uses and the records with rule numbers of their own go to the writer.
use borrow.Author.Rules.{rules}
use native.Mathlib.Omega.{arith}
use mathlib.Core.Path.{sym, ap, ◌∙◌}
use lib.ListN.{length}
use Prim.Native.Nat.{◌*◌, ◌/◌}
use Rattle.image.specs.Limits.{container_size, user_size}
use Rattle.image.specs.Image.{part}
use Rattle.image.proofs.AcceptedImage.{few_containers_lem, few_users_lem}
use Rattle.composition.proofs.RecordLoops.{own_size, users_size}
use Rattle.composition.proofs.PairPolicy.{lent_long, pair_over, filled_long, lent_tabled, lent_written, lent_none, lent_some}
use Rattle.composition.proofs.ComposeCases.{image_long}
use Rattle.composition.proofs.write_pair.Goals as goal

pub overflow_mul-w-2 : goal.overflow_mul-w-2
overflow_mul-w-2 c =
    let first = c.args.first.bytes.now in let good = c.requires.0.first in
    omega (arith, ap length c.containers-containers.ensures, ap length c.users.ensures, few_containers_lem first good, few_users_lem first good)

pub slice_bounds-forms-end : goal.slice_bounds-forms-end
slice_bounds-forms-end c =
    let first = c.args.first.bytes.now in let good = c.requires.0.first in
    omega (arith, ap length c.containers-containers.ensures, ap length c.users.ensures, few_containers_lem first good, few_users_lem first good)

pub put_uses-requires : goal.put_uses-requires
put_uses-requires c = (
  rw (c.containers-containers.ensures, c.users.ensures)
      (lent_long c.args.consent c.args.first.bytes.now c.args.second.bytes.now c.requires.0 _ (omega arith)),
  c.requires.0,
)

pub returns-then-not-put_uses : goal.returns-then-not-put_uses
returns-then-not-put_uses c =
    pair_over c.args.consent c.args.first.bytes.now c.args.second.bytes.now c.requires.0 c.put_uses.ensures c.if-not-put_uses.true _

pub put_places-a-requires : goal.put_places-a-requires
put_places-a-requires c =
    (rw c.containers-containers.ensures (few_containers_lem c.args.first.bytes.now c.requires.0.first), search rules)

pub put_users-b-requires : goal.put_users-b-requires
put_users-b-requires c = (
  rw c.users.ensures (few_users_lem c.args.first.bytes.now c.requires.0.first),
  omega (arith, ap length c.containers-containers.ensures, few_containers_lem c.args.first.bytes.now c.requires.0.first),
  search rules,
)

pub slice_bounds-write_policy-end : goal.slice_bounds-write_policy-end
slice_bounds-write_policy-end c =
    let w = rw c.containers-containers.ensures at c.put_places-a.ensures in
    omega (arith, w.ends, own_size (part c.args.first.bytes.now 0), few_containers_lem c.args.first.bytes.now c.requires.0.first)

pub slice_bounds-write_policy-end-2 : goal.slice_bounds-write_policy-end-2
slice_bounds-write_policy-end-2 c =
    let w = rw (c.containers-containers.ensures, c.users.ensures) at c.put_users-b.ensures in
    let first = c.args.first.bytes.now in
    let size = users_size (2 * (length (part first 0) / container_size)) (length (part first 1) / user_size) in
    omega (arith, w.ends, size, few_users_lem first c.requires.0.first)

pub slice_bounds-write_policy-end-3 : goal.slice_bounds-write_policy-end-3
slice_bounds-write_policy-end-3 c =
    rw (c.containers-containers.ensures, c.users.ensures)
    (filled_long c.args.consent c.args.first.bytes.now c.args.second.bytes.now c.requires.0
    (sym c.put_uses.ensures.told ∙ c.if-not-put_uses.false) _
    (c.put_uses.ensures.rows c.if-not-put_uses.false))

pub write_policy-length-requires : goal.write_policy-length-requires
write_policy-length-requires c = (
  rw (c.containers-containers.ensures, c.users.ensures)
      (lent_tabled c.args.consent c.args.first.bytes.now c.args.second.bytes.now c.requires.0
      (sym c.put_uses.ensures.told ∙ c.if-not-put_uses.false) _
      (c.put_uses.ensures.rows c.if-not-put_uses.false) (rw c.containers-containers.ensures at c.put_places-a.ensures)
      (rw (c.containers-containers.ensures, c.users.ensures) at c.put_users-b.ensures)),
  c.requires.1,
)

pub returns-then-length-eq0 : goal.returns-then-length-eq0
returns-then-length-eq0 c =
    lent_none _ (lent_written c.args.consent c.args.first.bytes.now c.args.second.bytes.now c.requires.0
    (sym c.put_uses.ensures.told ∙ c.if-not-put_uses.false) _
    (c.put_uses.ensures.rows c.if-not-put_uses.false) (rw c.containers-containers.ensures at c.put_places-a.ensures)
    (rw (c.containers-containers.ensures, c.users.ensures) at c.put_users-b.ensures)
    (rw (c.containers-containers.ensures, c.users.ensures) at c.write_policy-length.ensures))
    (image_long _) c.if-length-eq0.true

pub returns-else-length-eq0 : goal.returns-else-length-eq0
returns-else-length-eq0 c =
    lent_some _ (lent_written c.args.consent c.args.first.bytes.now c.args.second.bytes.now c.requires.0
    (sym c.put_uses.ensures.told ∙ c.if-not-put_uses.false) _
    (c.put_uses.ensures.rows c.if-not-put_uses.false) (rw c.containers-containers.ensures at c.put_places-a.ensures)
    (rw (c.containers-containers.ensures, c.users.ensures) at c.put_users-b.ensures)
    (rw (c.containers-containers.ensures, c.users.ensures) at c.write_policy-length.ensures))
    c.if-length-eq0.false
