-- The tests, one after the other, are those of `is_store`.
use Rattle.image.proofs.KindLaws.{store_tests}
use Rattle.image.proofs.is_store.Goals as goal

pub returns-then-is_file : goal.returns-then-is_file
returns-then-is_file c = rw (store_tests, ← c.is_file.ensures, c.if-is_file.true)

pub returns : goal.returns
returns c = rw (store_tests, ← c.is_file.ensures, c.if-is_file.false) c.is_volatile.ensures
