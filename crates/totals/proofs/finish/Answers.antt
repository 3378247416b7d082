-- `totals::finish`. Two places are set.
use Rattle.std.proofs.Common.{refl}
use Rattle.totals.specs.Places.{finished}
use Rattle.totals.proofs.finish.Goals as goal

pub returns : goal.returns
unfolding finished
returns c = refl
