-- The invariant: the rows before a fit.
use Rattle.matrix.specs.Rows.{bit_at}
use Rattle.withdrawals.specs.Returns.{source_fits}
use Rattle.lists.proofs.Below.{Passing}
use Rattle.withdrawals.proofs.stays_closed.Given as goal

abbrev pub invariant-loop-a : goal.invariant-loop-a
invariant-loop-a l = Passing (source_fits (bit_at l.flows) l.n l.sources l.targets) l.n l.a
