-- The thousands, and the last three digits over what does not count.
use Prim.Native.Nat.{◌/◌, ◌^◌, ◌≤◌, ◌<◌}
use native.Mathlib.Omega.{arith}
use Rattle.listing.specs.Text.{decimal_limit}
use Rattle.listing.proofs.NumberTexts.{digits_length, decimal_few, decimal_thousands}
use Rattle.listing.proofs.BufferLaws.{spare_join, spare_as}
use Rattle.listing.proofs.put_millions.Goals as goal

pub put_group-requires : goal.put_group-requires
put_group-requires c =
    let a = c.args in
    let l : a.n / 1000 < 10 ^ 6 = omega arith in
    omega (arith, decimal_few 5 (a.n / 1000) l)

pub returns : goal.returns
returns c =
    let a = c.args in
    let l : 1000 ≤ a.n = omega arith in
    let b : a.n < 10 ^ decimal_limit = omega arith in
    let high = c.put_thousands-next in
    spare_as (decimal_thousands a.n l b) (spare_join 1 (omega (arith, digits_length 10 3 a.n)) high.ensures c.put_group.ensures)
