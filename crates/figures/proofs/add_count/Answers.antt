-- `figures::add_count`. The test that was taken.
use Rattle.std.proofs.Common.{sym, ◌∙◌}
use Rattle.figures.proofs.add_count.Goals as goal

pub returns-then-passes : goal.returns-then-passes
returns-then-passes c = rw (sym c.passes.ensures ∙ c.if-passes.true) c.add_one.ensures

pub returns-else-passes : goal.returns-else-passes
returns-else-passes c = rw (sym c.passes.ensures ∙ c.if-passes.false)
