-- The number of its permit rule.
use Rattle.image.specs.Image.{policy_in}
use Rattle.certificate.proofs.ToldReasons.{told_own}
use Rattle.certificate.proofs.own_told.Goals as goal

pub returns : goal.returns
returns c = told_own (policy_in c.args.image.bytes.now) _ _ c.permit_number.ensures
