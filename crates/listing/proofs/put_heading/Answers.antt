-- The text is the heading, computed.
use Rattle.fields.specs.Ascii.{ascii}
use Rattle.listing.specs.Lines.{line, heading}
use Rattle.listing.proofs.put_heading.Goals as goal

pub returns : goal.returns
unfolding heading line ascii
returns c = c.put_text.ensures
