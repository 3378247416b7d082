-- `confinement::choose_own`. The invariant: those chosen so far, with what is left to choose (`Choosing`).
use lib.ListN.{length}
use Rattle.confinement.specs.Tables.{chosen_at}
use Rattle.confinement.proofs.LoopLaws.{Choosing, rest_at}
use Rattle.confinement.proofs.choose_own.Given as goal

abbrev pub invariant-loop-j : goal.invariant-loop-j
invariant-loop-j l = Choosing (chosen_at l.k l.own l.runs) (rest_at l.k l.own l.runs l.j) l.words l.count l.j (length l.runs)
