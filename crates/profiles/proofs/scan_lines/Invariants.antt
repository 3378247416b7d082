-- What is left of the text is judged as the whole is, and the lines so far are numbered.
use Prim.Native.Nat.{◌-◌}
use lib.ListN.{length}
use Rattle.profiles.proofs.TextScans.{TextScanned}
use Rattle.profiles.proofs.scan_lines.Given as goal

abbrev pub invariant-loop-at : goal.invariant-loop-at
invariant-loop-at l = TextScanned l.text l.initial.notes l.initial.words l.notes l.marks l.words l.at l.profiles l.count l.inside

abbrev pub decreases-loop-at : goal.decreases-loop-at
decreases-loop-at l = length l.text - l.at
