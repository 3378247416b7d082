-- A folded and spread number times n is below n times 2 to the 32.
use native.Mathlib.Omega.{arith}
use Rattle.normaliser.proofs.HashLaws.{hash_fits, hash_is, hash_below}
use Rattle.normaliser.proofs.hash.Goals as goal

pub overflow_mul-result : goal.overflow_mul-result
overflow_mul-result c = omega (arith, hash_fits c.mixed-h.result c.args.n c.requires.1)

pub returns : goal.returns
returns c = (
  hash_is c.mixed-h.result c.args.n c.args.words.now c.mixed-h.ensures,
  hash_below c.mixed-h.result c.args.n c.requires.0,
)
