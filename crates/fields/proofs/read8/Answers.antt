-- `fields::read8`. One byte.
use Rattle.fields.proofs.FieldLaws.{field_one}
use native.Mathlib.Omega.{arith}
use Rattle.fields.proofs.read8.Goals as goal

pub overflow_cast-result : goal.overflow_cast-result
overflow_cast-result c = omega (arith, c.shared_slice_known-1.given c.args.at)

pub returns : goal.returns
returns c = (field_one c.args.s.now c.args.at c.requires, omega (arith, c.shared_slice_known-1.given c.args.at))
