-- The records passed are good.
use Rattle.fields.proofs.SectionRecords.{Scanned}
use Rattle.image.specs.Policy.{container_good}
use Rattle.image.specs.Limits.{container_size}
use Rattle.image.specs.Image.{container_in}
use Prim.Native.Nat.{◌/◌}
use lib.ListN.{length}
use Rattle.image.proofs.containers_good.Given as goal

abbrev pub invariant-loop-i : goal.invariant-loop-i
invariant-loop-i l = Scanned (container_good l.n) container_in container_size l.s (length l.s / container_size) l.i
