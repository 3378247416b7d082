-- `explanations::put_pair`. Two fields, one behind the other.
use Prim.Native.Nat.{◌≤◌}
use native.Mathlib.Omega.{arith}
use lib.ListN.{length}
use Rattle.fields.proofs.WritingLaws.{wrote_join, wrote_as}
use Rattle.listing.proofs.ListingLines.{field_length}
use Rattle.explanations.proofs.ExplanationLines.{pair_text}
use Rattle.explanations.proofs.put_pair.Goals as goal

pub put_field-requires : goal.put_field-requires
put_field-requires c = omega (arith, field_length c.args.m, c.put_field-next.ensures.ends)

pub returns : goal.returns
returns c =
    let a = c.args in
    let h : a.at ≤ length a.out.now = omega arith in
    wrote_as (pair_text a.m a.n) (wrote_join h c.put_field-next.ensures c.put_field.ensures)
