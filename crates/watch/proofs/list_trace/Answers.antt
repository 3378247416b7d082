-- `watch::list_trace`. A missing trace has no record.
use Rattle.watch.proofs.ListedTrace.{trace_missing}
use Rattle.files.proofs.CallLaws.{missing_as}
use Rattle.watch.proofs.list_trace.Goals as goal

pub returns-in-None : goal.returns-in-None
returns-in-None c = trace_missing _ _ _ _ (missing_as _ c.in-None.is c.in_ok-file.ensures) c.no_tally.ensures
