-- Equal words stay; else the composed rule tells whether it fits.
use Rattle.rule_words.proofs.KeptWords.{kept_count, kept_normal, kept_short}
use Rattle.composition.proofs.EnteringLoop.{words_equal, words_over, words_put}
use Rattle.composition.proofs.compose_words.Goals as goal

pub returns-then-same : goal.returns-then-same
returns-then-same c = words_equal _ _ _ c.requires.0 c.requires.2 c.same.ensures c.if-same.true

pub rule_of-requires : goal.rule_of-requires
rule_of-requires c = (c.requires.0, kept_count _ c.requires.2)

pub rule_of-requires-2 : goal.rule_of-requires-2
rule_of-requires-2 c = (c.requires.1, kept_count _ c.requires.3)

pub composed-requires : goal.composed-requires
composed-requires c =
    rw (c.rule_of.ensures, c.rule_of-2.ensures) (
      kept_short c.args.words.now c.requires.2,
      kept_short c.args.other.now c.requires.3,
      kept_normal c.args.words.now c.requires.2,
      kept_normal c.args.other.now c.requires.3,
    )

pub returns-in_default : goal.returns-in_default
returns-in_default c =
    words_over _ c.args.words.now c.args.other.now
    (rw (c.rule_of.ensures, c.rule_of-2.ensures) at c.composed.ensures) c.requires.0 c.in_default.is

pub returns : goal.returns
returns c =
    words_put _ c.args.words.now c.args.other.now
    (rw (c.rule_of.ensures, c.rule_of-2.ensures) at c.composed.ensures) c.in-Some.is
    c.put_rule.ensures
