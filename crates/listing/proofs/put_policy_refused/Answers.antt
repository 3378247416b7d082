-- The named number is the line.
use Rattle.fields.specs.Ascii.{ascii}
use Rattle.listing.specs.Lines.{line, policy_line}
use Rattle.listing.proofs.put_policy_refused.Goals as goal

pub returns : goal.returns
unfolding policy_line line ascii
returns c = c.put_named.ensures
