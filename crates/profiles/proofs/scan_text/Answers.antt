-- The table as a slice.
use Rattle.profiles.proofs.scan_text.Goals as goal

pub returns : goal.returns
returns c = c.scan_table.ensures
