-- `fields::read32`. The bytes, the lowest first.
use Rattle.std.proofs.Common.{rules, arith}
use Rattle.fields.proofs.FieldLaws.{field_four}
use Rattle.fields.proofs.read32.Goals as goal

pub returns : goal.returns
returns c = (omega (arith, c.from_le_bytes.ensures, field_four c.args.s.now c.args.at c.requires), search rules)
