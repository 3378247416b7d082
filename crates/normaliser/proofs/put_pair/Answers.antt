-- Two numbers, one behind the other.
use native.Mathlib.Omega.{arith}
use Rattle.fields.proofs.WritingLaws.{wrote_ends}
use Rattle.normaliser.proofs.ImageBytes.{pair_wrote}
use Rattle.normaliser.proofs.put_pair.Goals as goal

pub put16-requires : goal.put16-requires
put16-requires c = omega (arith, wrote_ends 2 _ c.put16-next.ensures)

pub returns : goal.returns
returns c =
    pair_wrote _ _ c.requires c.put16-next.ensures c.put16.ensures
