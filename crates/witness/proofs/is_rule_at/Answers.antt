-- The unrestricted rule, or one of the section.
use native.Mathlib.Omega.{arith}
use mathlib.Core.Path.{ap}
use lib.ListN.{length}
use Rattle.witness.proofs.MixturesInPlace.{all_same, own_place, own_fits, own_unlike, own_same}
use Rattle.witness.proofs.is_rule_at.Goals as goal

pub returns-then-n-eq-UNRESTRICTED_NUMBER : goal.returns-then-n-eq-UNRESTRICTED_NUMBER
returns-then-n-eq-UNRESTRICTED_NUMBER c = all_same _ _ _ _ c.if-n-eq-UNRESTRICTED_NUMBER.true c.same.ensures

pub overflow_mul-n : goal.overflow_mul-n
overflow_mul-n c = omega (arith, own_place c.args.image.bytes.now c.args.image.accepted c.section-rules.ensures c.args.n c.args.rule.now c.requires c.if-n-eq-UNRESTRICTED_NUMBER.false)

pub read16-first-requires : goal.read16-first-requires
read16-first-requires c = omega (arith, own_place c.args.image.bytes.now c.args.image.accepted c.section-rules.ensures c.args.n c.args.rule.now c.requires c.if-n-eq-UNRESTRICTED_NUMBER.false)

pub overflow_mul-n-2 : goal.overflow_mul-n-2
overflow_mul-n-2 c = omega (arith, own_place c.args.image.bytes.now c.args.image.accepted c.section-rules.ensures c.args.n c.args.rule.now c.requires c.if-n-eq-UNRESTRICTED_NUMBER.false)

pub overflow_add-n : goal.overflow_add-n
overflow_add-n c = omega (arith, own_place c.args.image.bytes.now c.args.image.accepted c.section-rules.ensures c.args.n c.args.rule.now c.requires c.if-n-eq-UNRESTRICTED_NUMBER.false)

pub read16-count-requires : goal.read16-count-requires
read16-count-requires c = omega (arith, own_place c.args.image.bytes.now c.args.image.accepted c.section-rules.ensures c.args.n c.args.rule.now c.requires c.if-n-eq-UNRESTRICTED_NUMBER.false)

pub returns-then-count-rule : goal.returns-then-count-rule
returns-then-count-rule c =
    own_unlike c.args.image.bytes.now c.args.image.accepted c.section-rules.ensures c.args.n c.args.rule.now c.requires c.if-n-eq-UNRESTRICTED_NUMBER.false _ _
    c.read16-first.ensures.0 c.read16-count.ensures.0 c.if-count-rule.true

pub same_mixtures-requires : goal.same_mixtures-requires
same_mixtures-requires c =
    omega (
      arith,
      c.if-count-rule.false,
      ap length c.section.ensures,
      own_fits c.args.image.bytes.now c.args.image.accepted c.section-rules.ensures c.args.n c.args.rule.now c.requires c.if-n-eq-UNRESTRICTED_NUMBER.false _ _
          c.read16-first.ensures.0 c.read16-count.ensures.0,
    )

pub returns : goal.returns
returns c =
    own_same c.args.image.bytes.now c.args.image.accepted c.section-rules.ensures c.args.n c.args.rule.now c.requires c.if-n-eq-UNRESTRICTED_NUMBER.false _ _
    c.read16-first.ensures.0 c.read16-count.ensures.0 c.section.ensures _ c.if-count-rule.false c.same_mixtures.ensures
