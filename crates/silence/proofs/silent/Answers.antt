-- A matrix is refused, or the answer is whether each object is quiet.
use mathlib.Core.Path.{refl, sym}
use Rattle.lists.proofs.Bools.{passes_test, fails_test}
use Rattle.silence.proofs.SilenceLaws.{silence_refused, judged}
use Rattle.silence.proofs.silent.Goals as goal

pub returns-then-not-matrix_good : goal.returns-then-not-matrix_good
returns-then-not-matrix_good c = (sym (silence_refused _ _ _ (fails_test c.matrix_good.ensures c.if-not-matrix_good.true-raw)), refl)

pub matrix_quiet-requires : goal.matrix_quiet-requires
matrix_quiet-requires c = passes_test c.matrix_good.ensures c.if-not-matrix_good.false-raw

pub returns : goal.returns
returns c = (sym (judged _ _ _ (passes_test c.matrix_good.ensures c.if-not-matrix_good.false-raw) _ (sym c.matrix_quiet.ensures)), tt)
