-- `figures::add_numbers`. Invariant: the numbers below k are summed (`Changing`).
use Rattle.std.proofs.Common.{◌+◌, ◌%◌, ◌^◌, length, get_or}
use Rattle.figures.proofs.CountedParts.{Changing}
use Rattle.figures.proofs.add_numbers.Given as goal

abbrev pub invariant-loop-k : goal.invariant-loop-k
invariant-loop-k l = Changing (λ i n. (n + get_or l.numbers i 0) % 2 ^ 32) (length l.numbers) l.initial.total l.total l.k
