-- A pair and a number, one behind the other.
use native.Mathlib.Omega.{arith}
use Rattle.normaliser.proofs.ImageBytes.{pair_ends, rule_record_wrote}
use Rattle.normaliser.proofs.put_rule_record.Goals as goal

pub put16-requires : goal.put16-requires
put16-requires c = omega (arith, pair_ends _ _ c.put_pair-next.ensures)

pub returns : goal.returns
returns c =
    rule_record_wrote _ _ _ c.requires c.put_pair-next.ensures c.put16.ensures
