-- Invariant: the digits that are still to be written and those behind them make the number (Spelling).
use Rattle.listing.proofs.Spelling.{Spelling}
use Rattle.listing.proofs.put_long.Given as goal

abbrev pub invariant-loop-i : goal.invariant-loop-i
invariant-loop-i l = Spelling 10 l.k l.n l.at l.initial.out l.out l.i l.rest
