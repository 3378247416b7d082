-- By the number's size.
use native.Mathlib.Omega.{arith}
use Rattle.listing.proofs.NumberTexts.{length_one, length_two, length_three}
use Rattle.listing.proofs.unused_digits.Goals as goal

pub returns-then-n-lt10 : goal.returns-then-n-lt10
returns-then-n-lt10 c = omega (arith, length_one c.args.n c.if-n-lt10.true)

pub returns-then-n-lt100 : goal.returns-then-n-lt100
returns-then-n-lt100 c = omega (arith, length_two c.args.n c.if-n-lt10.false c.if-n-lt100.true)

pub returns : goal.returns
returns c = omega (arith, length_three c.args.n c.if-n-lt100.false c.requires)
