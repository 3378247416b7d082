-- The mixtures of the rule are tested as they stand.
use native.Mathlib.Omega.{arith}
use Rattle.certificate.proofs.ImageRules.{read_count, read_places, read_short, read_covers}
use Rattle.certificate.proofs.covers_by.Goals as goal

pub slice_bounds-covers-end : goal.slice_bounds-covers-end
slice_bounds-covers-end c =
    omega
    (arith, read_count c.args.image.bytes.now c.args.n c.args.image.accepted c.rule_at-rule.ensures, read_places c.args.image.bytes.now c.args.n c.args.image.accepted c.rule_at-rule.ensures)

pub covers-requires : goal.covers-requires
covers-requires c =
    read_short c.args.image.bytes.now c.args.n c.args.image.accepted c.rule_at-rule.ensures

pub returns : goal.returns
returns c =
    read_covers c.args.image.bytes.now c.args.n c.args.image.accepted c.rule_at-rule.ensures c.args.tag c.covers.ensures
