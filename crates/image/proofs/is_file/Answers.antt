-- The tests, one after the other, are those of `is_file`.
use borrow.Author.Tests.{eq-eqb, ne_eqb}
use Rattle.image.specs.Limits.{file_kind}
use Rattle.image.proofs.KindLaws.{file_tests}
use Rattle.image.proofs.is_file.Goals as goal

pub returns-then-kind-eq-FILE_KIND : goal.returns-then-kind-eq-FILE_KIND
returns-then-kind-eq-FILE_KIND c = rw (file_tests, eq-eqb _ file_kind c.if-kind-eq-FILE_KIND.true)

pub returns : goal.returns
returns c = rw (file_tests, ne_eqb _ file_kind c.if-kind-eq-FILE_KIND.false) c.is_guarded.ensures
