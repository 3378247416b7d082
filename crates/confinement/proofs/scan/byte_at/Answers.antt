-- A byte is below 256.
use native.Mathlib.Omega.{arith}
use Rattle.confinement.proofs.scan.byte_at.Goals as goal

pub overflow_cast-result : goal.overflow_cast-result
overflow_cast-result c = omega (arith, c.shared_slice_known-1.given c.args.at)

pub returns : goal.returns
returns c = omega (arith, c.shared_slice_known-1.given c.args.at)
