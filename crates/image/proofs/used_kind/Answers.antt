-- The tests, one after the other, are those of `used_kind`.
use Rattle.image.proofs.KindLaws.{used_tests}
use Rattle.image.proofs.used_kind.Goals as goal

pub returns-then-is_store : goal.returns-then-is_store
returns-then-is_store c = rw (used_tests, ← c.is_store.ensures, c.if-is_store.true)

pub returns : goal.returns
returns c = rw (used_tests, ← c.is_store.ensures, c.if-is_store.false) c.is_process.ensures
