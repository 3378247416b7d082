-- The invariant: the table has the classes of the first k rules, and each of them has its slot.
use mathlib.Core.Path.{◌≡◌}
use lib.ListN.{length}
use Rattle.normaliser.specs.Hashes.{Hashed}
use Rattle.normaliser.proofs.SectionRows.{Classing}
use Rattle.normaliser.proofs.classify.Given as goal

abbrev pub invariant-loop-k : goal.invariant-loop-k
invariant-loop-k l = Classing l.forms l.initial.classes l.classes l.n l.k × Hashed l.forms l.slots l.k × (length l.slots ≡ length l.initial.slots)
