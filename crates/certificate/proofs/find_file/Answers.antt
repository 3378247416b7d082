-- The mixtures of the rule are handed on as they stand.
use native.Mathlib.Omega.{arith}
use Rattle.certificate.proofs.ImageRules.{read_count, read_places}
use Rattle.certificate.proofs.SearchLaws.{file_found}
use Rattle.certificate.proofs.find_file.Goals as goal

pub slice_bounds-find_rule-end : goal.slice_bounds-find_rule-end
slice_bounds-find_rule-end c =
    omega (
      arith,
      read_count c.args.image.bytes.now c.run_number.result c.args.image.accepted c.rule_at-rule.ensures,
      read_places c.args.image.bytes.now c.run_number.result
          c.args.image.accepted c.rule_at-rule.ensures,
    )

pub find_rule-requires : goal.find_rule-requires
find_rule-requires c =
    (c.args.image.accepted, c.requires.1.for_links, c.requires.1.for_steps, c.requires.0)

pub returns : goal.returns
returns c =
    let f = c.find_rule.ensures in
    (file_found c.args.image.bytes.now c.args.trace.now c.args.f c.args.o c.args.image.accepted c.run_number.ensures c.rule_at-rule.ensures f.0 f.1 f.2, f.3)
