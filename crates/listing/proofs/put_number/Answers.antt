-- A number and a byte, one behind the other.
use Prim.Native.Nat.{◌≤◌, ◌<◌}
use native.Mathlib.Omega.{arith}
use lib.ListN.{length}
use Rattle.listing.proofs.NumberTexts.{decimal_length}
use Rattle.fields.proofs.WritingLaws.{wrote_join, wrote_byte}
use Rattle.listing.proofs.put_number.Goals as goal

pub bounds-out-next : goal.bounds-out-next
bounds-out-next c = omega (arith, decimal_length c.args.n)

pub overflow_add-result : goal.overflow_add-result
overflow_add-result c = omega (arith, decimal_length c.args.n)

pub returns : goal.returns
returns c =
    let a = c.args in
    let p = c.put_long-next in
    let h : a.at ≤ length a.out.now = omega arith in
    let l : p.result < length p.new.out = omega (arith, decimal_length a.n) in
    wrote_join h p.ensures (wrote_byte a.end p.result p.new.out l)
