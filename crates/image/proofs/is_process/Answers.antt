-- The definition computes.
use mathlib.Core.Path.{refl}
use Rattle.image.specs.Limits.{is_process}
use Rattle.image.proofs.is_process.Goals as goal

pub returns : goal.returns
unfolding is_process
returns c = refl
