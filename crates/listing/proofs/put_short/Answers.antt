-- A number and a text, one behind the other.
use Prim.Native.Nat.{◌≤◌}
use native.Mathlib.Omega.{arith}
use lib.ListN.{length}
use Rattle.fields.specs.Ascii.{ascii}
use Rattle.listing.specs.Lines.{space}
use Rattle.fields.proofs.WritingLaws.{wrote_join, wrote_as}
use Rattle.listing.proofs.ListingLines.{short_text, number_length}
use Rattle.listing.proofs.put_short.Goals as goal

pub put_text-requires : goal.put_text-requires
put_text-requires c = omega (arith, number_length c.args.step space)

pub returns : goal.returns
unfolding ascii
returns c =
    let a = c.args in
    let h : a.at ≤ length a.out.now = omega arith in
    let number = c.put_number-next in
    wrote_as (short_text a.step) (wrote_join h number.ensures c.put_text.ensures)
