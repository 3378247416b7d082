-- The unrestricted rule, none, or the mixtures of the record.
use native.Mathlib.Omega.{arith}
use Rattle.image.proofs.AcceptedImage.{accepted_section}
use Rattle.certificate.proofs.ImageRules.{told_all, told_none, told_room, told_some}
use Rattle.certificate.proofs.rule_at.Goals as goal

pub returns-then-n-eq-UNRESTRICTED_NUMBER : goal.returns-then-n-eq-UNRESTRICTED_NUMBER
returns-then-n-eq-UNRESTRICTED_NUMBER c = told_all c.args.image.now c.args.n c.if-n-eq-UNRESTRICTED_NUMBER.true c.unrestricted.ensures

pub section-rules-requires : goal.section-rules-requires
section-rules-requires c = accepted_section _ c.requires 2 (omega arith)

pub section-m-requires : goal.section-m-requires
section-m-requires c = accepted_section _ c.requires 3 (omega arith)

pub returns-then-rules-n : goal.returns-then-rules-n
returns-then-rules-n c =
    told_none c.args.image.now c.args.n c.requires c.if-n-eq-UNRESTRICTED_NUMBER.false c.section-rules.ensures c.section-m.ensures c.if-rules-n.true c.span_rule.ensures

pub span_rule-requires-2 : goal.span_rule-requires-2
span_rule-requires-2 c =
    told_room c.args.image.now c.args.n c.requires c.if-n-eq-UNRESTRICTED_NUMBER.false c.section-rules.ensures c.section-m.ensures c.if-rules-n.false c.read16-first.ensures.0
    c.read16-count.ensures.0

pub returns : goal.returns
returns c =
    told_some c.args.image.now c.args.n c.requires c.if-n-eq-UNRESTRICTED_NUMBER.false c.section-rules.ensures c.section-m.ensures c.if-rules-n.false c.read16-first.ensures.0
    c.read16-count.ensures.0 c.span_rule-2.ensures
