-- The words that are listed are those of a rule, and are brought to normal form.
use mathlib.Core.Path.{refl}
use Rattle.rule_words.proofs.WordLaws.{words_good, normal_out}
use Rattle.derivation.proofs.DerivedLaws.{few_mixtures}
use Rattle.derivation.proofs.put_permit.Goals as goal

pub settle-requires : goal.settle-requires
settle-requires c =
    words_good _ _ c.list_permit.ensures (few_mixtures c.args.rights.reads.now c.args.rights.writes.now c.args.b c.args.rights.few)

pub returns : goal.returns
returns c = normal_out _ _ _ _ c.settle.ensures c.list_permit.ensures refl
