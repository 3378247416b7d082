-- A hint that is right is the number.
use Rattle.confinement.proofs.scan.number_of.Goals as goal

pub returns-then-is_hinted : goal.returns-then-is_hinted
returns-then-is_hinted c = c.is_hinted.ensures.right c.if-is_hinted.true
