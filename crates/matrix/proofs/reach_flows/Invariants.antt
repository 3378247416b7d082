-- The rows of the subjects before s are what they write; then the passes of the subjects before k are made.
use Prim.Native.Nat.{ℕ}
use mathlib.Core.Path.{◌≡◌}
use lib.ListN.{length, get_or}
use Rattle.matrix.proofs.RowLoops.{Stored}
use Rattle.matrix.proofs.SubjectReach.{Passing}
use Rattle.matrix.proofs.reach_flows.Given as goal

abbrev pub invariant-loop-s : goal.invariant-loop-s
invariant-loop-s l = Stored (λ (i v : ℕ). v ≡ get_or l.writes i 0) (length l.writes) l.initial.reach l.reach l.s

abbrev pub invariant-loop-k : goal.invariant-loop-k
invariant-loop-k l = Passing l.reads l.writes l.reach l.k
