-- The consent decides, then the bytes.
use Rattle.lists.proofs.Bools.{passes_test, fails_test}
use Rattle.composition.proofs.SelfComposition.{not_repeated, repeated_if}
use Rattle.composition.proofs.is_repeated.Goals as goal

pub returns-then-not-consent_good : goal.returns-then-not-consent_good
returns-then-not-consent_good c = not_repeated _ _ _ (fails_test c.consent_good.ensures c.if-not-consent_good.true-raw)

pub returns : goal.returns
returns c = repeated_if _ _ _ (passes_test c.consent_good.ensures c.if-not-consent_good.false-raw) c.same_bytes.ensures
