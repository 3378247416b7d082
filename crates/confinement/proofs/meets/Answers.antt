-- `confinement::meets`. By definition.
use borrow.Author.Rules.{rules}
use Rattle.confinement.specs.Tables.{meets}
use Rattle.confinement.proofs.meets.Goals as goal

pub returns : goal.returns
unfolding meets
returns c = search rules
