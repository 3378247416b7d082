-- `confinement::list_inherited`. The inherited mixtures, or none, or all atoms.
use lib.ListN.{length-set}
use mathlib.Core.Path.{sym, ◌∙◌}
use Rattle.confinement.specs.Tables.{inherited_from}
use Rattle.confinement.proofs.ListedLaws.{all_listed, none_listed, listed_first, listed_other, any_listed, other_listed}
use Rattle.confinement.proofs.list_inherited.Goals as goal

pub returns-then-count-ne0 : goal.returns-then-count-ne0
unfolding inherited_from
returns-then-count-ne0 c = listed_first c.choose-count.ensures _ c.if-count-ne0.true

pub returns-then-choose-ne0 : goal.returns-then-choose-ne0
unfolding inherited_from
returns-then-choose-ne0 c =
    listed_other c.choose-count.ensures _ c.if-count-ne0.false
    (any_listed c.choose.ensures _ _ c.if-choose-ne0.true (none_listed _ c.choose.ensures.long))

pub shape_of-words : goal.shape_of-words
shape_of-words c =
    simp length-set (c.choose.ensures.long ∙ sym c.requires.1)

pub returns : goal.returns
unfolding inherited_from
returns c =
    listed_other c.choose-count.ensures _ c.if-count-ne0.false
    (other_listed c.choose.ensures _ _ c.if-choose-ne0.false (all_listed c.choose.new.words c.choose.ensures.long))
