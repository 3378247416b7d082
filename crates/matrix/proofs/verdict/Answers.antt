-- A matrix is refused, or its rows lead no further, or what the subjects reach gives the verdict.
use mathlib.Core.Path.{refl, sym, ◌∙◌}
use Rattle.lists.proofs.Bools.{passes_test, fails_test}
use Rattle.matrix.proofs.GoodLaws.{good_parts}
use Rattle.matrix.proofs.SubjectReach.{closed_consistent}
use Rattle.matrix.proofs.VerdictLoops.{verdict_is, verdict_refused, verdict_consistent}
use Rattle.matrix.proofs.verdict.Goals as goal

pub returns-then-not-matrix_good : goal.returns-then-not-matrix_good
returns-then-not-matrix_good c = (sym (verdict_refused _ _ _ (fails_test c.matrix_good.ensures c.if-not-matrix_good.true-raw)), refl)

pub rows_closed-requires : goal.rows_closed-requires
rows_closed-requires c = (good_parts _ _ _ (passes_test c.matrix_good.ensures c.if-not-matrix_good.false-raw)).even

pub returns-then-rows_closed : goal.returns-then-rows_closed
returns-then-rows_closed c =
    let good = passes_test c.matrix_good.ensures c.if-not-matrix_good.false-raw in
    (sym (verdict_consistent _ _ _ good (closed_consistent _ _ _ good (sym c.rows_closed.ensures ∙ c.if-rows_closed.true))), tt)

pub returns : goal.returns
returns c =
    (verdict_is _ _ _ _ _ (passes_test c.matrix_good.ensures c.if-not-matrix_good.false-raw) refl c.judge_composed.ensures, tt)
