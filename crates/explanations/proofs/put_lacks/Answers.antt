-- `explanations::put_lacks`. The word, the mixture and the atom, one behind the other.
use Prim.Native.Nat.{◌≤◌}
use native.Mathlib.Omega.{arith}
use lib.ListN.{length}
use Rattle.fields.specs.Ascii.{ascii}
use Rattle.fields.proofs.WritingLaws.{wrote_join, wrote_as}
use Rattle.listing.specs.Lines.{space}
use Rattle.listing.proofs.ListingLines.{tag_length}
use Rattle.explanations.proofs.ExplanationLines.{lacks_text}
use Rattle.explanations.proofs.put_lacks.Goals as goal

pub put_number-requires : goal.put_number-requires
put_number-requires c = omega (arith, tag_length c.args.mixture space)

pub returns : goal.returns
unfolding ascii
returns c =
    let a = c.args in
    let h : a.at ≤ length a.out.now = omega arith in
    wrote_as (lacks_text a.mixture a.atom) (wrote_join h (wrote_join h c.put_text-word.ensures c.put_tag-next.ensures) c.put_number.ensures)
