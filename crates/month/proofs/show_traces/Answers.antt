-- `month::show_traces`. Invariant: so many traces are shown (`Showing`); the names count up.
use Rattle.month.proofs.CountedMonth.{showing_start, showing_next}
use mathlib.Core.Path.{refl, ◌∙◌}
use Rattle.month.proofs.show_traces.Goals as goal

pub loop-n-init : goal.loop-n-init
loop-n-init c = (refl, showing_start _ _ _ _ c.requires.2 c.requires.3)

pub loop-n-preserved : goal.loop-n-preserved
loop-n-preserved c = (
  c.show_trace.auto.session ∙ c.loop-n.invariant.0,
  showing_next _ _ _ _ _ c.loop-n.invariant.1 _ _ c.loop-n-test.true c.trace_name-name.ensures c.in_ok-total.ensures,
)
