-- The definition computes.
use mathlib.Core.Path.{refl}
use Rattle.image.specs.Limits.{is_guarded}
use Rattle.image.proofs.is_guarded.Goals as goal

pub returns : goal.returns
unfolding is_guarded
returns c = refl
