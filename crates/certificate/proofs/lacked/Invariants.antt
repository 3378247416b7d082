-- The atoms of the mixtures before place i are noted.
use mathlib.Core.List.{map}
use Rattle.lists.proofs.Copying.{Copied}
use Rattle.certificate.specs.Origins.{lacked_by}
use Rattle.certificate.proofs.lacked.Given as goal

abbrev pub invariant-loop-i : goal.invariant-loop-i
invariant-loop-i l = Copied (map (lacked_by l.tag) l.mixtures) l.initial.atoms l.atoms 0 l.i
