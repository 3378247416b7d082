-- The parts of the number.
use mathlib.Core.Path.{refl}
use Rattle.profiles.specs.LineWords.{named_path}
use Rattle.profiles.proofs.named_path.Goals as goal

pub returns : goal.returns
unfolding named_path
returns c = refl
