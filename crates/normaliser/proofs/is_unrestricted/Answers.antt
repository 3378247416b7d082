-- The unrestricted rule without an owner has one mixture, of all atoms, and nobody as its owner.
use Rattle.normaliser.proofs.FirstEqual.{row_other_count, row_other_mixture, row_owner}
use Rattle.normaliser.proofs.is_unrestricted.Goals as goal

pub returns-then-words-ne1 : goal.returns-then-words-ne1
returns-then-words-ne1 c = row_other_count c.args.words.now c.requires c.if-words-ne1.true

pub returns-then-words : goal.returns-then-words
returns-then-words c =
    row_other_mixture c.args.words.now c.requires c.if-words-ne1.false c.if-words.true

pub returns : goal.returns
returns c =
    row_owner c.args.words.now c.requires c.if-words-ne1.false c.if-words.false
