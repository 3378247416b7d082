-- The unrestricted rule, or a rule of the section.
use Rattle.image.proofs.RulesByNumber.{named_own, own_normal, unrestricted_words}
use Rattle.rule_words.specs.Words.{words_of}
use mathlib.Core.Path.{ap, ◌∙◌}
use Rattle.image.proofs.put_rule_at.Goals as goal

pub put_own_rule-requires : goal.put_own_rule-requires
put_own_rule-requires c =
    (c.requires.0, named_own _ c.args.n c.requires.1 c.if-n-eq-UNRESTRICTED_NUMBER.false)

pub returns-then-n-eq-UNRESTRICTED_NUMBER : goal.returns-then-n-eq-UNRESTRICTED_NUMBER
returns-then-n-eq-UNRESTRICTED_NUMBER c =
    unrestricted_words _ c.args.n _ _ c.if-n-eq-UNRESTRICTED_NUMBER.true
    c.unrestricted.ensures c.put_rule.ensures

pub returns-else-n-eq-UNRESTRICTED_NUMBER : goal.returns-else-n-eq-UNRESTRICTED_NUMBER
returns-else-n-eq-UNRESTRICTED_NUMBER c =
    c.put_own_rule.ensures ∙ ap words_of (own_normal _ c.args.n c.if-n-eq-UNRESTRICTED_NUMBER.false)
