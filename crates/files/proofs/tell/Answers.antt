-- `files::tell`. The text was told: TO BE BELIEVED.
use Rattle.files.specs.Calls.{told_by_system}
use Rattle.files.proofs.tell.Goals as goal

pub returns : goal.returns
returns c = told_by_system
