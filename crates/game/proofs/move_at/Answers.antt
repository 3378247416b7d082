-- The move of a number, by the tests of `move_at`.
use borrow.Author.Tests.{lt-ltb, le-ltb}
use Rattle.game.specs.Positions.{subject_of, object_of}
use Rattle.game.specs.Outcomes.{move_at}
use Rattle.game.proofs.move_at.Goals as goal

pub returns-then-k-lt-READ_COUNT : goal.returns-then-k-lt-READ_COUNT
unfolding move_at subject_of object_of
returns-then-k-lt-READ_COUNT c = rw (lt-ltb _ _ c.if-k-lt-READ_COUNT.true)

pub returns-then-k-lt-RIGHT_COUNT : goal.returns-then-k-lt-RIGHT_COUNT
unfolding move_at subject_of object_of
returns-then-k-lt-RIGHT_COUNT c = rw (le-ltb _ _ c.if-k-lt-READ_COUNT.false, lt-ltb _ _ c.if-k-lt-RIGHT_COUNT.true)

pub returns : goal.returns
unfolding move_at
returns c = rw (le-ltb _ _ c.if-k-lt-READ_COUNT.false, le-ltb _ _ c.if-k-lt-RIGHT_COUNT.false)
