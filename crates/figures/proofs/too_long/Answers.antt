-- `figures::too_long`. The test of the records.
use Rattle.std.proofs.Common.{refl}
use Rattle.figures.specs.Figures.{too_many}
use Rattle.figures.proofs.too_long.Goals as goal

pub returns : goal.returns
unfolding too_many
returns c = refl
