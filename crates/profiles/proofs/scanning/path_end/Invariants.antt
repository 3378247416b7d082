-- The bytes passed are those of a path.
use Rattle.profiles.proofs.WordScans.{PathScanned}
use Rattle.profiles.proofs.scanning.path_end.Given as goal

abbrev pub invariant-loop-i : goal.invariant-loop-i
invariant-loop-i l = PathScanned l.text l.at l.i
