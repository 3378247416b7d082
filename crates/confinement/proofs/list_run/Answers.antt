-- `confinement::list_run`. The own profile's mixture, or all atoms, or what is inherited.
use lib.ListN.{length-set}
use mathlib.Core.Path.{sym, ◌∙◌}
use Rattle.confinement.specs.Tables.{run_from}
use Rattle.confinement.proofs.ListedLaws.{all_listed, listed_first, listed_other, any_listed, other_listed}
use Rattle.confinement.proofs.list_run.Goals as goal

pub returns-then-count-ne0 : goal.returns-then-count-ne0
unfolding run_from
returns-then-count-ne0 c = listed_first c.choose_own-count.ensures _ c.if-count-ne0.true

pub shape_of-words-then-choose-ne0 : goal.shape_of-words-then-choose-ne0
shape_of-words-then-choose-ne0 c =
    simp length-set (c.choose.ensures.long ∙ sym c.requires.1)

pub returns-then-choose-ne0 : goal.returns-then-choose-ne0
unfolding run_from
returns-then-choose-ne0 c =
    listed_other c.choose_own-count.ensures _ c.if-count-ne0.false
    (any_listed c.choose.ensures _ _ c.if-choose-ne0.true (all_listed c.choose.new.words c.choose.ensures.long))

pub returns : goal.returns
unfolding run_from
returns c =
    listed_other c.choose_own-count.ensures _
    c.if-count-ne0.false (other_listed c.choose.ensures _ _
    c.if-choose-ne0.false c.list_inherited.ensures)
