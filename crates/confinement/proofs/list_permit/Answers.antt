-- `confinement::list_permit`. The writers' mixtures, or the own atom.
use Rattle.confinement.specs.Tables.{permit_from}
use Rattle.confinement.proofs.ListedLaws.{one_listed, listed_first, listed_other}
use Rattle.confinement.proofs.list_permit.Goals as goal

pub returns-then-count-ne0 : goal.returns-then-count-ne0
unfolding permit_from
returns-then-count-ne0 c = listed_first (rw c.atom_if-own.ensures at c.choose-count.ensures) _ c.if-count-ne0.true

pub returns : goal.returns
unfolding permit_from
returns c =
    listed_other (rw c.atom_if-own.ensures at c.choose-count.ensures) _ c.if-count-ne0.false
    (rw c.atom_if-own.ensures (one_listed _ c.choose-count.new.words c.choose-count.ensures.long))
