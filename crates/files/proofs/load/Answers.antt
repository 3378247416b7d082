-- `files::load`. A part from the first byte on.
use Rattle.files.proofs.CallLaws.{loaded_part}
use Rattle.files.proofs.load.Goals as goal

pub returns : goal.returns
returns c = (c.in_ok-part.ensures.within, loaded_part _ _ _ _ c.in_ok-part.ensures)
