-- Each answer rewrites the definition by the tests that led there.
use Rattle.matrix.specs.Flows.{matrix_good}
use mathlib.Core.Path.{sym}
use borrow.Author.Tests.{eq-eqb, ne_eqb}
use Rattle.lists.proofs.Bools.{passes_test, fails_test}
use Rattle.matrix.proofs.GoodLaws.{count_good_most}
use Rattle.matrix.proofs.matrix_good.Goals as goal

pub returns-then-reads-writes : goal.returns-then-reads-writes
unfolding matrix_good
returns-then-reads-writes c = simp (ne_eqb _ _ c.if-reads-writes.true)

pub returns-then-not-count_good : goal.returns-then-not-count_good
unfolding matrix_good
returns-then-not-count_good c = simp (eq-eqb _ _ c.if-reads-writes.false, fails_test c.count_good.ensures c.if-not-count_good.true-raw)

pub returns-then-not-count_good-2 : goal.returns-then-not-count_good-2
unfolding matrix_good
returns-then-not-count_good-2 c =
    simp (
      eq-eqb _ _ c.if-reads-writes.false,
      passes_test c.count_good.ensures c.if-not-count_good.false-raw,
      fails_test c.count_good-2.ensures c.if-not-count_good-2.true-raw,
    )

pub rows_within-requires : goal.rows_within-requires
rows_within-requires c = (count_good_most _ _ (passes_test c.count_good-2.ensures c.if-not-count_good-2.false-raw), sym c.if-reads-writes.false)

pub returns : goal.returns
unfolding matrix_good
returns c =
    simp (
      eq-eqb _ _ c.if-reads-writes.false,
      passes_test c.count_good.ensures c.if-not-count_good.false-raw,
      passes_test c.count_good-2.ensures c.if-not-count_good-2.false-raw,
    ) c.rows_within.ensures
