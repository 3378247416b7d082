-- From an object that no such subject reads, no flow is missing.
use Rattle.matrix.proofs.VerdictLoops.{nothing_missing}
use Rattle.matrix.proofs.ungranted_row.Goals as goal

pub returns : goal.returns
returns c =
    nothing_missing _ _ _ _ _ _ c.requires.0 c.requires.1 c.requires.2 c.if-grown-a-eq1.false
