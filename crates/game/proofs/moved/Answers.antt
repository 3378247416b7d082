-- A move that adds a holder sets its bit.
use Rattle.game.proofs.GamePositions.{read_made, append_made}
use Rattle.game.proofs.moved.Goals as goal

pub returns-then-k-lt-READ_COUNT : goal.returns-then-k-lt-READ_COUNT
returns-then-k-lt-READ_COUNT c = read_made _ _ c.if-k-lt-READ_COUNT.true c.requires.1

pub returns : goal.returns
returns c = append_made _ _ c.if-k-lt-READ_COUNT.false c.requires.0 c.requires.1
