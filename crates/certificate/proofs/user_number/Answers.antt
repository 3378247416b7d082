-- The number of the unrestricted rule, or the field of the record.
use Rattle.certificate.proofs.ImageRules.{user_missed, user_there}
use Rattle.certificate.proofs.user_number.Goals as goal

pub returns-then-users-u : goal.returns-then-users-u
returns-then-users-u c = user_missed c.args.image.bytes.now c.args.u c.section-users.ensures c.if-users-u.true

pub returns : goal.returns
returns c =
    user_there c.args.image.bytes.now c.args.u c.section-users.ensures c.if-users-u.false c.read16.ensures.0
