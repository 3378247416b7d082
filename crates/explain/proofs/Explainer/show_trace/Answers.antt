-- `explain::Explainer::show_trace`. The explanations and the total line, one behind the other.
use Rattle.files.specs.Calls.{handed_as}
use Rattle.files.proofs.CallLaws.{done_as}
use Rattle.explanations.proofs.ExplanationLines.{wrote_front}
use Rattle.explain.proofs.ExplainedRecords.{trace_handed}
use Rattle.explain.proofs.Explainer.show_trace.Goals as goal

pub returns : goal.returns
returns c =
    done_as c.write_front.result
    (λ _ w. trace_handed _ _ _ _ _ _ _ c.in_ok-counts.ensures (handed_as (wrote_front c.put_total-end.ensures) w)) c.write_front.ensures
