-- What is running is ended as a run rule is.
use mathlib.Core.Path.{◌∙◌}
use Rattle.witness.proofs.CarryLaws.{running_ended}
use Rattle.witness.proofs.ends_running.Goals as goal

pub returns : goal.returns
returns c = c.ends_main.ensures ∙ running_ended _
