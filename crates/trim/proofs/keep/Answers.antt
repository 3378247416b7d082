-- `trim::keep`: each need by a law of proofs/.
use mathlib.Core.Path.{ap, ◌∙◌}
use native.Mathlib.Omega.{arith}
use Rattle.monitor.specs.Steps.{step_effect}
use Rattle.trim.proofs.ReplayLaws.{in_trace_lem, record_part}
use Rattle.trim.proofs.keep.Goals as goal

pub slice_bounds-step-end : goal.slice_bounds-step-end
slice_bounds-step-end c = omega (arith, in_trace_lem _ _ c.requires)

pub returns : goal.returns
returns c = c.step.ensures.1 ∙ ap (step_effect _) (record_part _ _)
