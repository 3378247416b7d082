-- The number of the user's rule.
use Rattle.certificate.proofs.ToldReasons.{told_user}
use Rattle.certificate.proofs.user_told.Goals as goal

pub returns : goal.returns
returns c = told_user _ _ _ _ _ c.user_number.ensures
