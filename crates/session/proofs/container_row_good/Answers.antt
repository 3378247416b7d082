-- The tests of a container row, one after the other, are those of `container_row_good`.
use mathlib.Core.Path.{sym, ap, ◌∙◌}
use native.Mathlib.Nat.{le_of_eq}
use lib.Seq.{take_all}
use Rattle.rule_words.specs.Words.{all_zero}
use Rattle.session.specs.Limits.{row_width}
use Rattle.session.specs.Rows.{permit_words, run_words}
use Rattle.lists.proofs.Bools.{passes_test, fails_test}
use Rattle.session.proofs.RowTests.{free_row, other_kind, bad_permit, bad_run, by_behalf}
use Rattle.session.proofs.container_row_good.Goals as goal

pub returns-then-is_free : goal.returns-then-is_free
returns-then-is_free c =
    c.all_zero.ensures
    ∙ ap all_zero (take_all row_width _ (le_of_eq c.requires))
    ∙ free_row _ (sym c.is_free.ensures ∙ c.if-is_free.true)

pub returns-then-not-used_kind : goal.returns-then-not-used_kind
returns-then-not-used_kind c = other_kind _ (sym c.is_free.ensures ∙ c.if-is_free.false) (fails_test c.used_kind.ensures c.if-not-used_kind.true-raw)

pub returns-then-not-kept_well : goal.returns-then-not-kept_well
unfolding permit_words
returns-then-not-kept_well c =
    bad_permit _ (sym c.is_free.ensures ∙ c.if-is_free.false) (passes_test c.used_kind.ensures c.if-not-used_kind.false-raw)
    (fails_test c.kept_well.ensures c.if-not-kept_well.true-raw)

pub returns-then-not-kept_well-2 : goal.returns-then-not-kept_well-2
unfolding permit_words run_words
returns-then-not-kept_well-2 c =
    bad_run _ (sym c.is_free.ensures ∙ c.if-is_free.false) (passes_test c.used_kind.ensures c.if-not-used_kind.false-raw)
    (passes_test c.kept_well.ensures c.if-not-kept_well.false-raw) (fails_test c.kept_well-2.ensures c.if-not-kept_well-2.true-raw)

pub returns : goal.returns
unfolding permit_words run_words
returns c =
    c.behalf_good.ensures
    ∙ by_behalf _ (sym c.is_free.ensures ∙ c.if-is_free.false) (passes_test c.used_kind.ensures c.if-not-used_kind.false-raw)
    (passes_test c.kept_well.ensures c.if-not-kept_well.false-raw)
    (passes_test c.kept_well-2.ensures c.if-not-kept_well-2.false-raw)
