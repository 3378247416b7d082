-- `fields::read64`. The bytes, the lowest first.
use Rattle.std.proofs.Common.{arith}
use Rattle.fields.proofs.FieldLaws.{field_eight}
use Rattle.fields.proofs.read64.Goals as goal

pub returns : goal.returns
returns c = omega (arith, c.from_le_bytes.ensures, field_eight c.args.s.now c.args.at c.requires)
