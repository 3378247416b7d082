-- `totals::add`. Invariant: the numbers below k are summed (`Changing`).
use Rattle.std.proofs.Common.{◌+◌, ◌%◌, ◌^◌, get_or}
use Rattle.figures.proofs.CountedParts.{Changing}
use Rattle.totals.specs.Totals.{figures_length}
use Rattle.totals.proofs.add.Given as goal

abbrev pub invariant-loop-k : goal.invariant-loop-k
invariant-loop-k l = Changing (λ i n. (n + get_or l.figures i 0) % 2 ^ 64) figures_length l.initial.total l.total l.k
