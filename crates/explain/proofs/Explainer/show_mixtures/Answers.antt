-- `explain::Explainer::show_mixtures`. Invariant: the lines of the first j mixtures are handed on (`Mixing`).
use native.Mathlib.Omega.{arith}
use Rattle.explain.proofs.LackedMixtures.{mixing_start, mixing_next, mixing_end}
use Rattle.explain.proofs.Explainer.show_mixtures.Goals as goal

pub loop-j-init : goal.loop-j-init
loop-j-init c = mixing_start _ _ _

pub show_mixture-requires : goal.show_mixture-requires
show_mixture-requires c = (c.requires.0, c.requires.1, omega (arith, c.loop-j-test.true, c.requires.1.count))

pub loop-j-preserved : goal.loop-j-preserved
loop-j-preserved c =
    mixing_next _ _ _ _ _ c.loop-j.invariant (omega (arith, c.loop-j-test.true, c.requires.1.count)) _ c.in_ok-show_mixture.ensures

pub returns : goal.returns
returns c = mixing_end _ _ _ _ _ c.loop-j.invariant (omega (arith, c.loop-j-test.false, c.requires.1.count))
