-- No container, no file, or a file whose run rule is tested.
use Rattle.certificate.proofs.ImageRules.{forbids_missed, forbids_no_file, forbids_file}
use Rattle.certificate.proofs.run_forbids.Goals as goal

pub returns-then-containers-c : goal.returns-then-containers-c
returns-then-containers-c c = forbids_missed c.args.image.bytes.now c.args.c c.section-containers.ensures c.args.tag c.if-containers-c.true

pub returns-then-not-is_file : goal.returns-then-not-is_file
returns-then-not-is_file c =
    forbids_no_file c.args.image.bytes.now c.args.c c.section-containers.ensures c.args.tag c.if-containers-c.false c.read8.ensures.0 c.is_file.ensures
    c.if-not-is_file.true-raw

pub returns : goal.returns
returns c =
    forbids_file c.args.image.bytes.now c.args.c c.section-containers.ensures c.args.tag c.if-containers-c.false c.read8.ensures.0 c.is_file.ensures c.if-not-is_file.false-raw
    c.run_number.ensures c.covers_by.ensures
