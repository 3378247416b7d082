-- A field of 8 bytes at its place is a mixture of the section.
use Rattle.image.proofs.RecordsByPlace.{mixture_at}
use mathlib.Core.Path.{◌∙◌}
use Rattle.image.proofs.mixture.Goals as goal

pub returns : goal.returns
returns c = c.read64.ensures ∙ mixture_at c.args.m.now c.args.k c.requires
