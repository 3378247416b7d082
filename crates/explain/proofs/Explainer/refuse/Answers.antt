-- `explain::Explainer::refuse`. The line handed on.
use mathlib.Core.Path.{ap, ◌∙◌}
use Rattle.files.specs.Calls.{handed_as}
use Rattle.listing.specs.Lines.{policy_line}
use Rattle.files.proofs.CallLaws.{done_as}
use Rattle.explanations.proofs.ExplanationLines.{wrote_front}
use Rattle.explain.proofs.Explainer.refuse.Goals as goal

pub returns : goal.returns
returns c = done_as _ (λ _. handed_as (wrote_front c.put_policy_refused-end.ensures ∙ ap policy_line c.number.ensures)) c.write_front.ensures
