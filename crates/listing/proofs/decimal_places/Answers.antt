use Prim.Native.Nat.{◌^◌, ◌<◌}
use native.Mathlib.Omega.{arith}
use mathlib.Core.Path.{refl, ap}
use lib.ListN.{length}
use Rattle.listing.specs.Text.{decimal_limit}
use Rattle.listing.proofs.NumberTexts.{decimal_below, decimal_length, decimal_longer}
use borrow.Author.Rules.{rules}
use Rattle.listing.proofs.decimal_places.Goals as goal

pub loop-rest-init : goal.loop-rest-init
loop-rest-init c = (search rules, refl)

pub overflow_add-k : goal.overflow_add-k
overflow_add-k c = omega (arith, decimal_length c.args.n)

pub loop-rest-preserved : goal.loop-rest-preserved
loop-rest-preserved c =
    let l = c.loop-rest in
    let b : l.rest < 10 ^ decimal_limit = omega arith in
    (omega arith, omega (arith, decimal_longer l.rest c.loop-rest-test.true b))

pub returns : goal.returns
returns c = omega (arith, ap length (decimal_below c.loop-rest.rest c.loop-rest-test.false))
