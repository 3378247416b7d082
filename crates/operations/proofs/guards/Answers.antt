-- `operations::guards`. The kind (`guards_not`), then the permit rule (`guards_told`).
use Rattle.operations.proofs.RowSteps.{kept_readable, kept_lent, permit_kept}
use Rattle.operations.proofs.EffectLaws.{guards_not, guards_told}
use Rattle.rule_words.proofs.KeptWords.{kept_short}
use Rattle.operations.proofs.guards.Goals as goal

pub returns-then-not-is_guarded : goal.returns-then-not-is_guarded
returns-then-not-is_guarded c = guards_not c.args.s.now c.args.c c.args.tag c.requires _ c.is_guarded.ensures c.if-not-is_guarded.true-raw

pub rule_of-rule-requires : goal.rule_of-rule-requires
rule_of-rule-requires c =
    kept_readable _ (kept_lent c.args.s.now _ (permit_kept c.args.s.now c.args.c c.requires).kept)

pub covers-requires : goal.covers-requires
covers-requires c =
    rw c.rule_of-rule.ensures (kept_short _ (kept_lent c.args.s.now _ (permit_kept c.args.s.now c.args.c c.requires).kept).well)

pub returns : goal.returns
returns c =
    let is_guarded = c.is_guarded in
    let if1 = c.if-not-is_guarded in
    guards_told c.args.s.now c.args.c c.args.tag c.requires _ is_guarded.ensures if1.false-raw _
    c.rule_of-rule.ensures _ c.covers.ensures
