-- The modes passed are in the set.
use Prim.Native.Nat.{◌-◌}
use lib.ListN.{length}
use Rattle.profiles.proofs.ModeLaws.{ModesScanned}
use Rattle.profiles.proofs.scanning.modes_at.Given as goal

abbrev pub invariant-loop-i : goal.invariant-loop-i
invariant-loop-i l = ModesScanned l.text l.at l.i l.bits

abbrev pub decreases-loop-i : goal.decreases-loop-i
decreases-loop-i l = length l.text - l.i
