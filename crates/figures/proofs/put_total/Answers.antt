-- `figures::put_total`. A text and the figures, one behind the other (`total_listed`).
use Rattle.fields.specs.Ascii.{ascii}
use Rattle.figures.specs.Counters.{counters, figures_in}
use Rattle.figures.proofs.FigureLines.{total_listed}
use Rattle.figures.proofs.put_total.Goals as goal

pub returns : goal.returns
unfolding ascii
returns c records =
    let a = c.args in
    total_listed (figures_in (counters records a.counts.now a.alerted.now)) c.put_text-next.ensures (c.put_figures.ensures records)
