-- The number of the unrestricted rule, or the field of the record.
use Rattle.certificate.proofs.ImageRules.{permit_missed, permit_there}
use Rattle.certificate.proofs.permit_number.Goals as goal

pub returns-then-containers-c : goal.returns-then-containers-c
returns-then-containers-c c = permit_missed c.args.image.bytes.now c.args.c c.section-containers.ensures c.if-containers-c.true

pub returns : goal.returns
returns c =
    permit_there c.args.image.bytes.now c.args.c c.section-containers.ensures c.if-containers-c.false c.read16.ensures.0
