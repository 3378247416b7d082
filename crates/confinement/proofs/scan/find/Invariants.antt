-- Paths that differ are passed one after the other.
use Rattle.confinement.specs.Tables.{path_at}
use Rattle.confinement.proofs.PathSearch.{Searched}
use Rattle.confinement.proofs.scan.find.Given as goal

abbrev pub invariant-loop-j : goal.invariant-loop-j
invariant-loop-j l = Searched l.text (path_at l.text l.start l.size) l.starts l.sizes l.n l.j
