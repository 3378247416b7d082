-- `answers::count`. Each count by its test.
use Rattle.answers.specs.Tallies.{tallied}
use Rattle.answers.proofs.count.Goals as goal

pub returns : goal.returns
unfolding tallied
returns c =
    let more = c.more in
    let is_alert_lem = c.is_alert in
    rw (more.ensures, c.counted_if.ensures, is_alert_lem.ensures, c.counted_if-2.ensures, c.is_refused.ensures)
