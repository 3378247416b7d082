-- The offset and the size are read, and the tests are those of `part_good`.
use Rattle.image.specs.Image.{part_good, offset, section_length}
use borrow.Author.Tests.{lt-leb, le-leb}
use Rattle.image.proofs.part_good.Goals as goal

pub returns-then-offset-from : goal.returns-then-offset-from
unfolding part_good offset section_length
returns-then-offset-from c = rw (← c.read16-offset.ensures.0, lt-leb _ _ c.if-offset-from.true)

pub returns : goal.returns
unfolding part_good offset section_length
returns c = rw (← c.read16-offset.ensures.0, ← c.read16.ensures.0, le-leb _ _ c.if-offset-from.false)
