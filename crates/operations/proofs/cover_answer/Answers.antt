-- `operations::cover_answer`. The rule that is read is the row's permit rule, and the cover test decides.
use Rattle.session.specs.Rows.{permit_words}
use Rattle.operations.proofs.RowSteps.{row_readable, judged_small, judged_by}
use native.Mathlib.Omega.{arith}
use Rattle.operations.proofs.cover_answer.Goals as goal

pub rule_of-rule-requires : goal.rule_of-rule-requires
unfolding permit_words
rule_of-rule-requires c = row_readable c.args.row.now c.requires.0 c.requires.1

pub overflow_cast-position : goal.overflow_cast-position
unfolding permit_words
overflow_cast-position c =
    omega (
      arith,
      judged_small c.args.row.now _ _ _ (row_readable c.args.row.now c.requires.0 c.requires.1)
          c.rule_of-rule.ensures c.cover_place-place.ensures,
    )

pub returns : goal.returns
unfolding permit_words
returns c =
    judged_by c.args.row.now _ c.args.receiver _ _ (row_readable c.args.row.now c.requires.0 c.requires.1)
    c.rule_of-rule.ensures c.cover_place-place.ensures c.verdict_of-verdict.ensures
