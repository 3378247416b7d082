-- Four numbers, one behind the other.
use native.Mathlib.Omega.{arith}
use Rattle.fields.proofs.WritingLaws.{wrote_ends}
use Rattle.normaliser.proofs.ImageBytes.{container_wrote}
use Rattle.normaliser.proofs.put_container_record.Goals as goal

pub put8-b-requires : goal.put8-b-requires
put8-b-requires c = omega (arith, wrote_ends 1 _ c.put8-a.ensures)

pub put_pair-requires : goal.put_pair-requires
put_pair-requires c = omega (arith, wrote_ends 1 _ c.put8-b.ensures, wrote_ends 1 _ c.put8-a.ensures)

pub returns : goal.returns
returns c =
    let put8 = c.put8-a in
    let put82 = c.put8-b in
    container_wrote _ _ _ _ c.requires put8.ensures put82.ensures c.put_pair.ensures
