-- By the number's size.
use Prim.Native.Nat.{◌≤◌}
use native.Mathlib.Omega.{arith}
use lib.ListN.{length}
use Rattle.listing.proofs.BufferLaws.{wrote_spare, spare_more}
use Rattle.listing.proofs.put_decimal.Goals as goal

pub returns-then-n-lt1000000 : goal.returns-then-n-lt1000000
returns-then-n-lt1000000 c = spare_more 3 (omega arith) c.put_thousands.ensures

pub returns-then-n-lt1000000000 : goal.returns-then-n-lt1000000000
returns-then-n-lt1000000000 c = spare_more 3 (omega arith) c.put_millions.ensures

pub returns : goal.returns
returns c =
    let a = c.args in
    let h : a.at ≤ length a.out.now = omega arith in
    wrote_spare 3 h c.put_long.ensures
