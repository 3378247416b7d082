-- All its atoms consent, or the other rule decides.
use Rattle.composition.proofs.EnteringLoop.{enters_consenting, enters_covered}
use Rattle.composition.proofs.enters.Goals as goal

pub returns-then-consent-m : goal.returns-then-consent-m
returns-then-consent-m c = enters_consenting _ _ _ c.if-consent-m.true

pub returns : goal.returns
returns c = enters_covered _ _ _ c.if-consent-m.false c.covers.ensures
