use Rattle.std.proofs.Common.{◌∙◌}
use Rattle.matrix.proofs.VerdictLoops.{row_next, searching_next, searching_skip, searching_end, searching_found}
use Rattle.matrix.proofs.first_flow.Goals as goal

pub sources-preserved-then-row-eq0 : goal.sources-preserved-then-row-eq0
sources-preserved-then-row-eq0 c =
    (c.sources.invariant.0, searching_skip _ _ _ _ _ c.sources.invariant.1 c.if-row-eq0.true c.ungranted_row-row.ensures)

pub loop-b-preserved : goal.loop-b-preserved
loop-b-preserved c = (c.loop-b.invariant.0, row_next _ _ _ _ _ _ c.loop-b.invariant.1 c.ungranted_row-row.ensures c.if-row-b-eq1.false)

pub sources-preserved : goal.sources-preserved
sources-preserved c = (c.loop-b.invariant.0, searching_next _ _ _ _ _ c.loop-b.invariant.1 c.loop-b-test.false)

pub returns-after-sources : goal.returns-after-sources
returns-after-sources c = c.sources.invariant.0 ∙ searching_end _ _ _ _ _ c.sources.invariant.1 c.sources-test.false

pub returns-then-row-b-eq1 : goal.returns-then-row-b-eq1
returns-then-row-b-eq1 c =
    searching_found _ _ _ _ _ _ _ c.loop-b.invariant.1 c.sources-test.true c.loop-b-test.true c.ungranted_row-row.ensures
    c.if-row-b-eq1.true
