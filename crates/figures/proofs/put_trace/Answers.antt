-- `figures::put_trace`. The name, then 19 (`too_long_listed`) or the figures (`trace_listed`).
use Rattle.std.proofs.Common.{sym, ◌∙◌}
use Rattle.figures.specs.Counters.{counters, figures_in}
use Rattle.figures.proofs.FigureLines.{trace_listed, too_long_listed}
use Rattle.figures.proofs.put_trace.Goals as goal

pub returns-then-too_long : goal.returns-then-too_long
unfolding figures_in
returns-then-too_long c =
    let trace_name = c.trace_name-name in
    let put_text = c.put_text-next in
    let too_long = c.too_long in
    let a = c.args in
    too_long_listed a.n (figures_in (counters a.records a.counts.now a.alerted.now)) trace_name.ensures
    (sym too_long.ensures ∙ c.if-too_long.true) put_text.ensures c.put_too_long.ensures

pub returns : goal.returns
unfolding figures_in
returns c =
    let trace_name = c.trace_name-name in
    let put_text = c.put_text-next in
    let too_long = c.too_long in
    let a = c.args in
    trace_listed a.n (figures_in (counters a.records a.counts.now a.alerted.now)) trace_name.ensures
    (sym too_long.ensures ∙ c.if-too_long.false) put_text.ensures (c.put_figures.ensures a.records)
