-- The number of the unrestricted rule, or the field of the record.
use Rattle.certificate.proofs.ImageRules.{run_missed, run_there}
use Rattle.certificate.proofs.run_number.Goals as goal

pub returns-then-containers-c : goal.returns-then-containers-c
returns-then-containers-c c = run_missed c.args.image.bytes.now c.args.c c.section-containers.ensures c.if-containers-c.true

pub returns : goal.returns
returns c =
    run_there c.args.image.bytes.now c.args.c c.section-containers.ensures c.if-containers-c.false c.read16.ensures.0
