-- `trim::cut_counts`: each need by a law of proofs/.
use native.Mathlib.Omega.{arith}
use borrow.Author.Tests.{not-true, not-false}
use Rattle.trim.proofs.ReplayLaws.{counts_not, counts_last, record_part, in_trace_lem}
use borrow.Author.Rules.{rules}
use Rattle.trim.proofs.cut_counts.Goals as goal

pub returns-then-not-replay : goal.returns-then-not-replay
returns-then-not-replay c = counts_not _ _ _ _ c.replay.ensures (not-true _ c.if-not-replay.true-raw)

pub slice_bounds-step-end : goal.slice_bounds-step-end
slice_bounds-step-end c = omega (arith, in_trace_lem _ _ c.requires.1)

pub returns : goal.returns
returns c =
    counts_last _ _ _ _ c.replay.ensures (not-false _ c.if-not-replay.false-raw) (record_part _ _) c.step-answer.ensures.0 c.step-answer.ensures.1 (search rules) c.is_alert.ensures
