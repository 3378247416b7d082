-- `explain::Explainer::show_mixtures`. Invariant: the lines of the first j mixtures are handed on (`Mixing`).
use Rattle.explain.proofs.LackedMixtures.{Mixing}
use Rattle.explain.proofs.Explainer.show_mixtures.Given as goal

abbrev pub invariant-loop-j : goal.invariant-loop-j
invariant-loop-j l = Mixing l.given.image.now l.given.trace.now l.initial.self.sent l.self.sent l.j
