-- `explanations::put_way`. The word and two numbers, one behind the other.
use Prim.Native.Nat.{◌≤◌}
use native.Mathlib.Omega.{arith}
use lib.ListN.{length}
use Rattle.fields.specs.Ascii.{ascii}
use Rattle.fields.proofs.WritingLaws.{wrote_join, wrote_as}
use Rattle.explanations.proofs.ExplanationLines.{way_fields_lem}
use Rattle.explanations.proofs.put_way.Goals as goal

pub returns : goal.returns
unfolding ascii
returns c =
    let a = c.args in
    let h : a.at ≤ length a.out.now = omega arith in
    wrote_as (way_fields_lem a.atom a.file) (wrote_join h c.put_text-next.ensures c.put_pair.ensures)
