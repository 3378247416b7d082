-- The table of granted flows is transitive exactly if the matrix is consistent, and is what the search is given.
use mathlib.Core.Path.{sym, ◌∙◌}
use Rattle.lists.proofs.Bools.{passes_test, fails_test}
use Rattle.withdrawals.proofs.NeedLaws.{flow_table, table_consistent, judging}
use Rattle.withdrawals.proofs.JudgementTests.{flows_3, flows_4, flows_0}
use Rattle.withdrawals.proofs.judge_flows.Goals as goal

pub table_closed-requires : goal.table_closed-requires
table_closed-requires c = let p = c.requires in flow_table _ _ _ _ _ _ _ p p.few c.fill_granted.ensures

pub returns-then-not-table_closed : goal.returns-then-not-table_closed
returns-then-not-table_closed c =
    let p = c.requires in
    flows_3 _ _ _ _ _ (sym (table_consistent _ _ _ _ _ p.few c.fill_granted.ensures) ∙ fails_test c.table_closed.ensures c.if-not-table_closed.true-raw)

pub subjects_needed-requires : goal.subjects_needed-requires
subjects_needed-requires c =
    let p = c.requires in
    judging _ _ _ _ _ _ _ p p.few c.fill_granted.ensures (sym (table_consistent _ _ _ _ _ p.few c.fill_granted.ensures) ∙ passes_test c.table_closed.ensures c.if-not-table_closed.false-raw)

pub returns-then-not-subjects_needed : goal.returns-then-not-subjects_needed
returns-then-not-subjects_needed c =
    let p = c.requires in
    flows_4 _ _ _ _ _ (sym (table_consistent _ _ _ _ _ p.few c.fill_granted.ensures) ∙ passes_test c.table_closed.ensures c.if-not-table_closed.false-raw)
    (fails_test c.subjects_needed.ensures c.if-not-subjects_needed.true-raw)

pub returns : goal.returns
returns c =
    let p = c.requires in
    flows_0 _ _ _ _ _ (sym (table_consistent _ _ _ _ _ p.few c.fill_granted.ensures) ∙ passes_test c.table_closed.ensures c.if-not-table_closed.false-raw)
    (passes_test c.subjects_needed.ensures c.if-not-subjects_needed.false-raw)
