-- `figures::add_counts`. Invariant: the counts below the test are changed (`Changing`).
use Rattle.std.proofs.Common.{cond}
use Rattle.figures.specs.Figures.{count_limit, test_at}
use Rattle.figures.specs.Counters.{one_more}
use Rattle.figures.proofs.CountedParts.{Changing}
use Rattle.figures.proofs.add_counts.Given as goal

abbrev pub invariant-loop-test : goal.invariant-loop-test
invariant-loop-test l = Changing (λ k n. cond (test_at k l.answer) (one_more n) n) count_limit l.initial.counts l.counts l.test
