-- Each answer rewrites the definition by the tests that led there.
use Rattle.lists.proofs.Bools.{passes_test, fails_test}
use Rattle.matrix.specs.Flows.{well_formed}
use Rattle.withdrawals.specs.Judgements.{same_counts, comparable}
use Rattle.withdrawals.proofs.comparable.Goals as goal

pub returns-then-not-matrix_good : goal.returns-then-not-matrix_good
unfolding comparable well_formed
returns-then-not-matrix_good c = simp (fails_test c.matrix_good.ensures c.if-not-matrix_good.true-raw)

pub returns-then-not-matrix_good-2 : goal.returns-then-not-matrix_good-2
unfolding comparable well_formed
returns-then-not-matrix_good-2 c =
    simp (passes_test c.matrix_good.ensures c.if-not-matrix_good.false-raw, fails_test c.matrix_good-2.ensures c.if-not-matrix_good-2.true-raw)

pub returns-then-not-matrix_good-3 : goal.returns-then-not-matrix_good-3
unfolding comparable well_formed
returns-then-not-matrix_good-3 c =
    simp (
      passes_test c.matrix_good.ensures c.if-not-matrix_good.false-raw,
      passes_test c.matrix_good-2.ensures c.if-not-matrix_good-2.false-raw,
      fails_test c.matrix_good-3.ensures c.if-not-matrix_good-3.true-raw,
    )

pub returns-then-not-same_counts : goal.returns-then-not-same_counts
unfolding comparable well_formed same_counts
returns-then-not-same_counts c =
    simp (
      passes_test c.matrix_good.ensures c.if-not-matrix_good.false-raw,
      passes_test c.matrix_good-2.ensures c.if-not-matrix_good-2.false-raw,
      passes_test c.matrix_good-3.ensures c.if-not-matrix_good-3.false-raw,
      fails_test c.same_counts.ensures c.if-not-same_counts.true-raw,
    )

pub returns : goal.returns
unfolding comparable well_formed same_counts
returns c =
    simp (
      passes_test c.matrix_good.ensures c.if-not-matrix_good.false-raw,
      passes_test c.matrix_good-2.ensures c.if-not-matrix_good-2.false-raw,
      passes_test c.matrix_good-3.ensures c.if-not-matrix_good-3.false-raw,
      passes_test c.same_counts.ensures c.if-not-same_counts.false-raw,
    ) c.same_counts-2.ensures
