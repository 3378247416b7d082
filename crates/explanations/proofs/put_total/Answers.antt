-- `explanations::put_total`. Two named numbers, one behind the other.
use Prim.Native.Nat.{◌≤◌}
use native.Mathlib.Omega.{arith}
use lib.ListN.{length}
use Rattle.fields.specs.Ascii.{ascii}
use Rattle.fields.proofs.WritingLaws.{wrote_join, wrote_as}
use Rattle.listing.specs.Lines.{space}
use Rattle.listing.proofs.ListingLines.{number_length}
use Rattle.explanations.proofs.ExplanationLines.{total_text}
use Rattle.explanations.proofs.put_total.Goals as goal

pub put_named-requires : goal.put_named-requires
put_named-requires c = omega (arith, number_length c.args.records space)

pub returns : goal.returns
unfolding ascii
returns c =
    let a = c.args in
    let h : a.at ≤ length a.out.now = omega arith in
    wrote_as (total_text a.records a.explained) (wrote_join h c.put_named-next.ensures c.put_named.ensures)
