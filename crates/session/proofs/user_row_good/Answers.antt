-- The tests of a user row, one after the other, are those of `user_row_good`.
use Rattle.session.specs.Rows.{user_rule_words}
use mathlib.Core.Path.{◌∙◌}
use Rattle.session.proofs.RowTests.{undeclared_row, other_first, by_user_rule}
use Rattle.session.proofs.user_row_good.Goals as goal

pub returns-then-first-eq0 : goal.returns-then-first-eq0
returns-then-first-eq0 c = c.all_zero.ensures ∙ undeclared_row _ c.if-first-eq0.true

pub returns-then-first-ne-DECLARED : goal.returns-then-first-ne-DECLARED
returns-then-first-ne-DECLARED c = other_first _ c.if-first-eq0.false c.if-first-ne-DECLARED.true

pub returns : goal.returns
unfolding user_rule_words
returns c = c.kept_well.ensures ∙ by_user_rule _ c.if-first-eq0.false c.if-first-ne-DECLARED.false
