-- `explain::Explainer::show_records`. Invariant: the records before `at` are run and explained (`Explaining`).
use Prim.Native.Nat.{◌-◌}
use lib.ListN.{length}
use Rattle.explain.proofs.ExplainedRecords.{Explaining}
use Rattle.explain.proofs.Explainer.show_records.Given as goal

abbrev pub invariant-loop-at : goal.invariant-loop-at
invariant-loop-at l =
    Explaining l.image l.trace l.initial.self.sent l.session l.self.sent l.at l.records l.explained

abbrev pub decreases-loop-at : goal.decreases-loop-at
decreases-loop-at l = length l.trace - l.at
