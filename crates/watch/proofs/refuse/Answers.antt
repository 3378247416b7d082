-- `watch::refuse`. The line handed on.
use mathlib.Core.Path.{ap, ◌∙◌}
use Rattle.files.specs.Calls.{handed_as}
use Rattle.listing.specs.Lines.{policy_line}
use Rattle.listing.proofs.Theorems.{listed_front}
use Rattle.files.proofs.CallLaws.{done_as}
use Rattle.watch.proofs.refuse.Goals as goal

pub returns : goal.returns
returns c = done_as _ (λ _. handed_as (listed_front _ _ _ _ c.list_refused-end.ensures ∙ ap policy_line c.number.ensures)) c.write_front.ensures
