use Rattle.confinement.proofs.LoopLaws.{mixing_start, mixing_next, mixing_end}
use Rattle.confinement.proofs.run_mixture.Goals as goal

pub loop-k-init : goal.loop-k-init
loop-k-init c = rw c.atom_if-mixture.ensures (mixing_start _ _)

pub loop-k-preserved : goal.loop-k-preserved
loop-k-preserved c = mixing_next _ _ _ _ _ c.loop-k.invariant c.loop-k-test.true c.file_atoms-mixture.ensures

pub returns : goal.returns
returns c = mixing_end _ _ _ _ c.loop-k.invariant c.loop-k-test.false
