-- The offset and the size are read.
use Rattle.image.specs.Image.{offset, section_length}
use mathlib.Core.Path.{ap₂}
use Prim.Native.Nat.{◌+◌}
use Rattle.image.proofs.end.Goals as goal

pub returns : goal.returns
unfolding offset section_length
returns c = ap₂ ◌+◌ c.read16.ensures.0 c.read16-2.ensures.0
