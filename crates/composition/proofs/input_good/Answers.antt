-- The shape decides, then the consent.
use Rattle.lists.proofs.Bools.{passes_test, fails_test}
use Rattle.composition.proofs.ComposeCases.{input_not, input_if}
use Rattle.composition.proofs.input_good.Goals as goal

pub returns-then-not-same_shape : goal.returns-then-not-same_shape
returns-then-not-same_shape c = input_not _ _ _ (fails_test c.same_shape.ensures c.if-not-same_shape.true-raw)

pub returns : goal.returns
returns c = input_if _ _ _ (passes_test c.same_shape.ensures c.if-not-same_shape.false-raw) c.consent_good.ensures
