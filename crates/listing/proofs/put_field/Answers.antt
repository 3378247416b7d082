-- A space and a number, one behind the other.
use Prim.Native.Nat.{◌≤◌, ◌<◌}
use native.Mathlib.Omega.{arith}
use lib.ListN.{length, length-set}
use Rattle.listing.specs.Lines.{space}
use Rattle.fields.proofs.WritingLaws.{wrote_join, wrote_byte, wrote_as}
use Rattle.listing.proofs.ListingLines.{field_text}
use Rattle.listing.proofs.put_field.Goals as goal

pub put_long-requires : goal.put_long-requires
put_long-requires c = simp length-set (omega arith)

pub shape_of-out : goal.shape_of-out
shape_of-out c = let a = c.args in omega (arith, length-set a.out.now a.at space)

pub returns : goal.returns
returns c =
    let a = c.args in
    let h : a.at ≤ length a.out.now = omega arith in
    let l : a.at < length a.out.now = omega arith in
    wrote_as (field_text a.n) (wrote_join h (wrote_byte space a.at a.out.now l) c.put_long.ensures)
