-- The definition computes.
use mathlib.Core.Path.{refl}
use Rattle.image.specs.Limits.{is_free}
use Rattle.image.proofs.is_free.Goals as goal

pub returns : goal.returns
unfolding is_free
returns c = refl
