-- The tests of a row in use whose rules have one mixture each, one after the other, are those of `container_row_good`.
use mathlib.Core.Path.{◌∙◌}
use Rattle.session.specs.Rows.{permit_words, run_words}
use Rattle.lists.proofs.Bools.{passes_test, fails_test}
use Rattle.session.proofs.RowTests.{single_kind, single_bad_permit, single_bad_run, single_by_behalf}
use Rattle.session.proofs.single_row_good.Goals as goal

pub returns-then-not-used_kind : goal.returns-then-not-used_kind
returns-then-not-used_kind c =
    single_kind _ c.requires.1 c.requires.0 (fails_test c.used_kind.ensures c.if-not-used_kind.true-raw)

pub returns-then-not-none_behind : goal.returns-then-not-none_behind
unfolding permit_words
returns-then-not-none_behind c =
    single_bad_permit _ c.requires.1 (passes_test c.used_kind.ensures c.if-not-used_kind.false-raw)
    (fails_test c.none_behind.ensures c.if-not-none_behind.true-raw)

pub returns-then-not-none_behind-2 : goal.returns-then-not-none_behind-2
unfolding permit_words run_words
returns-then-not-none_behind-2 c =
    single_bad_run _ c.requires.1 (passes_test c.used_kind.ensures c.if-not-used_kind.false-raw)
    (passes_test c.none_behind.ensures c.if-not-none_behind.false-raw) (fails_test c.none_behind-2.ensures c.if-not-none_behind-2.true-raw)

pub returns : goal.returns
unfolding permit_words run_words
returns c =
    c.behalf_good.ensures
    ∙ single_by_behalf _ c.requires.1 (passes_test c.used_kind.ensures c.if-not-used_kind.false-raw)
    (passes_test c.none_behind.ensures c.if-not-none_behind.false-raw)
    (passes_test c.none_behind-2.ensures c.if-not-none_behind-2.false-raw)
