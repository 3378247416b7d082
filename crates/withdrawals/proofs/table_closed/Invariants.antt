-- The invariant: the rows before a are closed.
use Rattle.withdrawals.specs.Returns.{row_closed}
use Rattle.lists.proofs.Below.{Passing}
use Rattle.withdrawals.proofs.table_closed.Given as goal

abbrev pub invariant-loop-a : goal.invariant-loop-a
invariant-loop-a l = Passing (row_closed l.flows l.n) l.n l.a
