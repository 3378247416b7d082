-- Nobody, or the field of the rule record.
use native.Mathlib.Omega.{arith}
use Prim.Native.Nat.{◌/◌}
use lib.ListN.{length}
use Rattle.image.specs.Limits.{rule_size}
use Rattle.image.proofs.RulesByNumber.{named_own}
use Rattle.composition.proofs.UseRows.{owner_none, owner_own}
use Rattle.composition.proofs.owner_at.Goals as goal

pub returns-then-n-eq-UNRESTRICTED_NUMBER : goal.returns-then-n-eq-UNRESTRICTED_NUMBER
returns-then-n-eq-UNRESTRICTED_NUMBER c = owner_none _ _ c.if-n-eq-UNRESTRICTED_NUMBER.true

pub overflow_mul-n : goal.overflow_mul-n
overflow_mul-n c = omega (arith, named_own (length c.args.rules.now / rule_size) c.args.n c.requires c.if-n-eq-UNRESTRICTED_NUMBER.false, c.ranges)

pub overflow_add-n : goal.overflow_add-n
overflow_add-n c = omega (arith, named_own (length c.args.rules.now / rule_size) c.args.n c.requires c.if-n-eq-UNRESTRICTED_NUMBER.false, c.ranges)

pub read16-requires : goal.read16-requires
read16-requires c = omega (arith, named_own (length c.args.rules.now / rule_size) c.args.n c.requires c.if-n-eq-UNRESTRICTED_NUMBER.false)

pub returns : goal.returns
returns c = owner_own c.args.rules.now c.args.n c.requires c.if-n-eq-UNRESTRICTED_NUMBER.false c.read16.ensures.0
