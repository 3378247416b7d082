-- The leading number and four pairs, one behind the other.
use native.Mathlib.Omega.{arith}
use Rattle.fields.proofs.WritingLaws.{wrote_ends}
use Rattle.normaliser.proofs.ImageBytes.{pair_ends, header_wrote}
use Rattle.normaliser.proofs.write_header.Goals as goal

pub put_pair-b-requires : goal.put_pair-b-requires
put_pair-b-requires c = omega (arith, wrote_ends 2 _ c.put16-a.ensures)

pub put_pair-d-requires : goal.put_pair-d-requires
put_pair-d-requires c = omega (arith, pair_ends _ _ c.put_pair-b.ensures, wrote_ends 2 _ c.put16-a.ensures)

pub put_pair-e-requires : goal.put_pair-e-requires
put_pair-e-requires c =
    omega (
      arith,
      pair_ends _ _ c.put_pair-d.ensures,
      pair_ends _ _ c.put_pair-b.ensures,
      wrote_ends 2 _ c.put16-a.ensures,
    )

pub put_pair-requires : goal.put_pair-requires
put_pair-requires c =
    omega (
      arith,
      pair_ends _ _ c.put_pair-e.ensures,
      pair_ends _ _ c.put_pair-d.ensures,
      pair_ends _ _ c.put_pair-b.ensures,
      wrote_ends 2 _ c.put16-a.ensures,
    )

pub returns : goal.returns
returns c =
    let number = c.put16-a in
    let first = c.put_pair-b in
    let second = c.put_pair-d in
    let third = c.put_pair-e in
    header_wrote _ _ _ _ (omega arith) number.ensures first.ensures second.ensures third.ensures c.put_pair.ensures
