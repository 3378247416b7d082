-- The records of an image that is not refused are good among its mixtures.
use Rattle.image.proofs.AcceptedImage.{accepted_spans}
use Rattle.image.proofs.accepted.Accepted.rules.Goals as goal

pub invariant_of-result : goal.invariant_of-result
invariant_of-result c = record { good = rw (c.section.ensures, c.section-2.ensures) (accepted_spans _ c.args.self.accepted) }
