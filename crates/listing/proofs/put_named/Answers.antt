-- A text and a number, one behind the other.
use Prim.Native.Nat.{◌≤◌}
use native.Mathlib.Omega.{arith}
use lib.ListN.{length}
use Rattle.fields.proofs.WritingLaws.{wrote_join}
use Rattle.listing.proofs.put_named.Goals as goal

pub returns : goal.returns
returns c =
    let a = c.args in
    let h : a.at ≤ length a.out.now = omega arith in
    let text = c.put_text-next in
    wrote_join h text.ensures c.put_number.ensures
