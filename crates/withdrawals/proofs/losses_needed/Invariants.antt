-- The invariant: the rights to the objects before k are needed.
use Rattle.matrix.specs.Rows.{bit_at}
use Rattle.withdrawals.specs.Returns.{object_needed}
use Rattle.lists.proofs.Below.{Passing}
use Rattle.withdrawals.proofs.losses_needed.Given as goal

abbrev pub invariant-loop-k : goal.invariant-loop-k
invariant-loop-k l = Passing (object_needed (bit_at l.flows) l.n l.lost_reads l.lost_writes l.reads l.writes) l.n l.k
