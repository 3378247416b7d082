-- Permit, run, or the number of a user.
use native.Mathlib.Omega.{arith}
use mathlib.Core.Path.{ap}
use lib.ListN.{length}
use Rattle.image.proofs.AcceptedImage.{few_users_lem}
use Rattle.composition.proofs.UseNumbers.{use_count_lem, number_permit, number_run, number_user}
use Rattle.composition.proofs.number_at.Goals as goal

pub returns-then-k-eq0 : goal.returns-then-k-eq0
returns-then-k-eq0 c =
    let section = c.containers-containers in
    number_permit c.args.policy.bytes.now c.args.k (rw section.ensures at c.if-k-n.true) c.if-k-eq0.true (rw section.ensures at c.read16.ensures.0)

pub returns-then-k-n : goal.returns-then-k-n
returns-then-k-n c =
    let section = c.containers-containers in
    number_run c.args.policy.bytes.now c.args.k (rw section.ensures at c.if-k-n.true) c.if-k-eq0.false (rw section.ensures at c.read16-then-k-n.ensures.0)

pub overflow_mul-k : goal.overflow_mul-k
overflow_mul-k c =
    omega (arith, ap length c.containers-containers.ensures, c.if-k-n.false, c.requires, use_count_lem c.args.policy.bytes.now, few_users_lem c.args.policy.bytes.now c.args.policy.accepted)

pub read16-requires-2 : goal.read16-requires-2
read16-requires-2 c =
    let section = c.containers-containers in
    rw (section.ensures, c.users.ensures) (omega (arith, rw section.ensures at c.if-k-n.false, c.requires, use_count_lem c.args.policy.bytes.now))

pub returns : goal.returns
returns c =
    let section = c.containers-containers in
    number_user c.args.policy.bytes.now c.args.k (rw section.ensures at c.if-k-n.false) c.requires
    (rw (section.ensures, c.users.ensures) at c.read16-2.ensures.0)
