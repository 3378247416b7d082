-- A number below 1,000 leaves up to three bytes behind it, and the space stands on the first.
use Prim.Native.Nat.{◌≤◌, ◌<◌}
use native.Mathlib.Omega.{arith}
use lib.ListN.{length}
use Rattle.listing.specs.Lines.{space}
use Rattle.listing.proofs.NumberTexts.{decimal_length}
use Rattle.listing.proofs.BufferLaws.{wrote_spare, spare_byte}
use Rattle.listing.proofs.put_container_number.Goals as goal

pub bounds-out-next : goal.bounds-out-next
bounds-out-next c = omega (arith, decimal_length c.args.n)

pub overflow_add-result : goal.overflow_add-result
overflow_add-result c = omega (arith, decimal_length c.args.n)

pub returns-then-n-lt1000 : goal.returns-then-n-lt1000
returns-then-n-lt1000 c =
    let a = c.args in
    let p = c.put_short_number-next in
    let l : p.result < length p.new.out = omega (arith, decimal_length a.n) in
    spare_byte space 2 l (omega arith) p.ensures

pub returns : goal.returns
returns c =
    let a = c.args in
    let h : a.at ≤ length a.out.now = omega arith in
    wrote_spare 2 h c.put_number.ensures
