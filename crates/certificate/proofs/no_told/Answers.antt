-- No chain is told.
use Rattle.certificate.proofs.ToldReasons.{told_nothing}
use Rattle.certificate.proofs.no_told.Goals as goal

pub returns : goal.returns
returns c = told_nothing _
