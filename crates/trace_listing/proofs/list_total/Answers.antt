-- `trace_listing::list_total`. The line fits (`total_fits`).
use Rattle.listing.proofs.Theorems.{total_fits, line_listed}
use Rattle.listing.specs.Lines.{total_of}
use Rattle.trace_listing.proofs.list_total.Goals as goal

pub returns : goal.returns
unfolding total_of
returns c = line_listed (total_fits _ _ _) c.put_total.ensures
