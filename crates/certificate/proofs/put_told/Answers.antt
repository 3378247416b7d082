-- The seventeen numbers are those of what is told.
use native.Mathlib.Omega.{arith}
use Rattle.certificate.proofs.ImageRules.{read_count, read_places, read_short}
use Rattle.certificate.proofs.ToldNumbers.{told_put}
use Rattle.certificate.proofs.put_told.Goals as goal

pub slice_bounds-lacked-end : goal.slice_bounds-lacked-end
slice_bounds-lacked-end c =
    omega (arith, read_count c.args.image.bytes.now _ c.args.image.accepted c.rule_at-rule.ensures, read_places c.args.image.bytes.now _ c.args.image.accepted c.rule_at-rule.ensures)

pub lacked-atoms-requires : goal.lacked-atoms-requires
lacked-atoms-requires c =
    read_short c.args.image.bytes.now _ c.args.image.accepted c.rule_at-rule.ensures

pub returns : goal.returns
returns c =
    told_put c.args.image.bytes.now c.args.receiver c.args.tag c.args.told c.args.image.accepted c.rule_at-rule.ensures c.lacked-atoms.ensures c.owner_at.ensures
    c.args.out.now c.put.ensures
