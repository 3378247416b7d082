-- The space stands on the first byte that does not count behind the number.
use Prim.Native.Nat.{◌<◌}
use native.Mathlib.Omega.{arith}
use lib.ListN.{length}
use Rattle.listing.specs.Lines.{space}
use Rattle.listing.proofs.NumberTexts.{decimal_length}
use Rattle.listing.proofs.BufferLaws.{spare_byte}
use Rattle.listing.proofs.put_step_number.Goals as goal

pub bounds-out-next : goal.bounds-out-next
bounds-out-next c = omega (arith, decimal_length c.args.n)

pub overflow_add-result : goal.overflow_add-result
overflow_add-result c = omega (arith, decimal_length c.args.n)

pub returns : goal.returns
returns c =
    let a = c.args in
    let p = c.put_decimal-next in
    let l : p.result < length p.new.out = omega (arith, decimal_length a.n) in
    spare_byte space 2 l (omega arith) p.ensures
