-- `trace_listing::list_refused`. The line fits (`policy_fits`).
use Rattle.listing.proofs.Theorems.{policy_fits, line_listed}
use Rattle.trace_listing.proofs.list_refused.Goals as goal

pub returns : goal.returns
returns c = line_listed (policy_fits _) c.put_policy_refused.ensures
