-- `confinement::choose`. The invariant: those chosen so far, with what is left to choose (`Choosing`).
use lib.ListN.{length}
use Rattle.confinement.specs.Tables.{chosen_by, column_at}
use Rattle.confinement.proofs.LoopLaws.{Choosing, rest_by}
use Rattle.confinement.proofs.choose.Given as goal

abbrev pub invariant-loop-j : goal.invariant-loop-j
invariant-loop-j l = Choosing (chosen_by l.wanted l.more (column_at l.modes l.k (length l.runs)) l.runs) (rest_by l.wanted l.more l.modes l.k l.runs l.j) l.words l.count l.j (length l.runs)
