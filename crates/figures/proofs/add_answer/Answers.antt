-- `figures::add_answer`. The counts, the alert and the records, each by its own function.
use Rattle.figures.specs.Counters.{counted}
use Rattle.figures.proofs.add_answer.Goals as goal

pub returns : goal.returns
unfolding counted
returns c = rw (c.add_counts.ensures, c.add_alert.ensures, c.more.ensures)
