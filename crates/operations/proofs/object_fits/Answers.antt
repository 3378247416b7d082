-- `operations::object_fits`. One bit of the set.
use Rattle.rules.specs.Sets.{atom}
use Rattle.image.specs.Limits.{kind_in}
use borrow.Author.Rules.{rules}
use Rattle.operations.proofs.object_fits.Goals as goal

pub returns : goal.returns
unfolding kind_in atom
returns c = search rules
