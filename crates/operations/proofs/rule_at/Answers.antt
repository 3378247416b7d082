-- `operations::rule_at`. The part that is lent is the words from the place on.
use Rattle.operations.proofs.RowSteps.{words_lent}
use mathlib.Core.Path.{ap, ◌∙◌}
use Rattle.rules.specs.Answers.{bounded_of}
use Rattle.rule_words.specs.Words.{rule_of}
use Rattle.operations.proofs.rule_at.Goals as goal

pub rule_copy-requires : goal.rule_copy-requires
rule_copy-requires c = rw words_lent c.requires.words

pub returns : goal.returns
returns c = c.rule_copy.ensures ∙ ap (λ x. bounded_of (rule_of x)) (words_lent c.args.s.now c.args.at)
