-- Nobody, or the field of the rule record.
use Rattle.certificate.proofs.ImageRules.{owner_nobody, owner_missed, owner_there}
use Rattle.certificate.proofs.owner_at.Goals as goal

pub returns-then-n-eq-UNRESTRICTED_NUMBER : goal.returns-then-n-eq-UNRESTRICTED_NUMBER
returns-then-n-eq-UNRESTRICTED_NUMBER c = owner_nobody c.args.image.bytes.now c.args.n c.if-n-eq-UNRESTRICTED_NUMBER.true

pub returns-then-rules-n : goal.returns-then-rules-n
returns-then-rules-n c =
    owner_missed c.args.image.bytes.now c.args.n c.if-n-eq-UNRESTRICTED_NUMBER.false c.section-rules.ensures c.if-rules-n.true

pub returns : goal.returns
returns c =
    owner_there c.args.image.bytes.now c.args.n c.if-n-eq-UNRESTRICTED_NUMBER.false c.section-rules.ensures c.if-rules-n.false c.read16.ensures.0
