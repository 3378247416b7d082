-- `trace_listing::list_heading`. The line fits (`heading_fits`).
use Rattle.listing.proofs.Theorems.{heading_fits, line_listed}
use Rattle.trace_listing.proofs.list_heading.Goals as goal

pub returns : goal.returns
returns c = line_listed heading_fits c.put_heading.ensures
