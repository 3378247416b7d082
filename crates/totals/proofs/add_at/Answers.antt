-- `totals::add_at`. One place is set.
use Rattle.totals.specs.Places.{one_counted}
use Rattle.totals.proofs.add_at.Goals as goal

pub returns : goal.returns
unfolding one_counted
returns c = rw c.more.ensures
