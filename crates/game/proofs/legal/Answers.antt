-- The bit of the right, or the pass.
use Rattle.game.proofs.GamePositions.{legal_right, legal_pass}
use Rattle.game.proofs.legal.Goals as goal

pub returns-then-k-lt-RIGHT_COUNT : goal.returns-then-k-lt-RIGHT_COUNT
returns-then-k-lt-RIGHT_COUNT c = legal_right _ _ c.if-k-lt-RIGHT_COUNT.true

pub returns : goal.returns
returns c = legal_pass _ _ c.if-k-lt-RIGHT_COUNT.false
