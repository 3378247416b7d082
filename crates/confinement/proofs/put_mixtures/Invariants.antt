-- `confinement::put_mixtures`. The invariant: the mixtures of the programs so far (`Filling`).
use lib.ListN.{get_or}
use Rattle.confinement.specs.Tables.{row_mixture, row_at}
use Rattle.confinement.proofs.LoopLaws.{Filling}
use Rattle.confinement.proofs.put_mixtures.Given as goal

abbrev pub invariant-loop-j : goal.invariant-loop-j
invariant-loop-j l = Filling (λ i. row_mixture (get_or l.own i 0) (row_at l.modes l.n i)) l.m l.runs l.j
