-- The invariants: no source before a, and no target before b, has a flow that is not granted, and nothing is found.
use Rattle.std.proofs.Common.{◌≡◌, None}
use Rattle.matrix.proofs.VerdictLoops.{Searching, SearchingRow}
use Rattle.matrix.proofs.first_flow.Given as goal

abbrev pub invariant-loop-b : goal.invariant-loop-b
invariant-loop-b l = (l.found ≡ None) × SearchingRow l.reads l.writes l.n l.a l.b

abbrev pub invariant-sources : goal.invariant-sources
invariant-sources l = (l.found ≡ None) × Searching l.reads l.writes l.n l.a
