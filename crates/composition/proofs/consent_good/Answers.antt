-- `composition::consent_good`. Each byte is tested, as the definition has it.
use borrow.Author.Rules.{rules}
use borrow.Author.Tests.{tests}
use Rattle.std.proofs.lemmas.Iterator.{YieldsList-from_slice}
use Rattle.std.proofs.lemmas.Iterator.Search.{all_from_yields_List}
use Rattle.composition.proofs.ConsentLaws.{zero_or_one}
use Rattle.composition.proofs.ConsentLoops.{judged, other_length}
use Rattle.composition.proofs.consent_good.Goals as goal

pub returns-then-consent-ne-DATA_WIDTH : goal.returns-then-consent-ne-DATA_WIDTH
returns-then-consent-ne-DATA_WIDTH c = other_length _ c.if-consent-ne-DATA_WIDTH.true

pub returns : goal.returns
returns c =
    let bytes = YieldsList-from_slice c.args.consent.now cc in
    judged c.args.consent.now c.if-consent-ne-DATA_WIDTH.false
    (all_from_yields_List zero_or_one _ _ _ c.all.ensures.ran bytes (λ x b q k. search (rules, tests)))
