-- The invariant: the rows before s are held.
use lib.ListN.{length, get_or}
use Rattle.rules.specs.Sets.{holds}
use Rattle.lists.proofs.Below.{Passing}
use Rattle.withdrawals.proofs.rows_held.Given as goal

abbrev pub invariant-loop-s : goal.invariant-loop-s
invariant-loop-s l = Passing (λ i. holds (get_or l.others i 0) (get_or l.rows i 0)) (length l.rows) l.s
