-- `operations::release`. The row's words are cleared, which makes it free (`cleared`).
use mathlib.Core.Path.{refl}
use Rattle.operations.proofs.EffectLaws.{cleared}
use Rattle.operations.proofs.release.Goals as goal

pub returns : goal.returns
returns c =
    (refl, cleared c.args.s.now c.args.c c.requires.0 c.requires.1 _ c.clear.ensures)
