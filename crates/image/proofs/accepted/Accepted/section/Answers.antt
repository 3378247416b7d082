-- An image that is not refused can lend each of its sections.
use Rattle.image.proofs.AcceptedImage.{accepted_section}
use Rattle.image.proofs.accepted.Accepted.section.Goals as goal

pub section-requires : goal.section-requires
section-requires c = accepted_section _ c.args.self.accepted _ c.requires
