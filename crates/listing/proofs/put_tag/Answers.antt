-- The digits and the space, one behind the other.
use Prim.Native.Nat.{◌≤◌, ◌<◌}
use native.Mathlib.Omega.{arith}
use lib.ListN.{length}
use Rattle.listing.specs.Lines.{space}
use Rattle.listing.proofs.NumberTexts.{hexadecimal_length}
use Rattle.fields.proofs.WritingLaws.{wrote_join, wrote_byte}
use Rattle.listing.proofs.put_tag.Goals as goal

pub bounds-out-next : goal.bounds-out-next
bounds-out-next c = omega (arith, hexadecimal_length c.args.tag)

pub overflow_add-result : goal.overflow_add-result
overflow_add-result c = omega (arith, hexadecimal_length c.args.tag)

pub returns : goal.returns
returns c =
    let a = c.args in
    let p = c.put_hexadecimal-next in
    let h : a.at ≤ length a.out.now = omega arith in
    let l : p.result < length p.new.out = omega (arith, hexadecimal_length a.tag) in
    wrote_join h p.ensures (wrote_byte space p.result p.new.out l)
