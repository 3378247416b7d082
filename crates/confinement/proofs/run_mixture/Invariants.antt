-- `confinement::run_mixture`. The invariant: the atoms so far, with those of the paths that are left (`Mixing`).
use Rattle.confinement.proofs.LoopLaws.{Mixing}
use Rattle.confinement.proofs.run_mixture.Given as goal

abbrev pub invariant-loop-k : goal.invariant-loop-k
invariant-loop-k l = Mixing l.own l.row l.mixture l.k
