-- `figures::passes`. By the place: the test of the definition that stands there.
use Rattle.std.proofs.Common.{sym, arith, rules}
use Rattle.figures.specs.Figures.{test_at}
use Rattle.figures.proofs.FigureLaws.{no_test}
use Rattle.figures.proofs.passes.Goals as goal

pub returns-in-0 : goal.returns-in-0
unfolding test_at
returns-in-0 c = rw c.in-0.is (search rules)

pub returns-in-1 : goal.returns-in-1
unfolding test_at
returns-in-1 c = rw c.in-1.is (search rules)

pub returns-in-2 : goal.returns-in-2
unfolding test_at
returns-in-2 c = rw c.in-2.is (search rules)

pub returns-in-3 : goal.returns-in-3
unfolding test_at
returns-in-3 c = rw c.in-3.is (search rules)

pub returns-in_default : goal.returns-in_default
returns-in_default c = sym (no_test c.args.test c.args.answer (omega arith))
