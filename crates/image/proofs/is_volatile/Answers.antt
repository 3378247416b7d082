-- The definition computes.
use mathlib.Core.Path.{refl}
use Rattle.image.specs.Limits.{is_volatile}
use Rattle.image.proofs.is_volatile.Goals as goal

pub returns : goal.returns
unfolding is_volatile
returns c = refl
