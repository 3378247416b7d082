-- `trim::named_rows`: no record before place i names a container over `most`.
use Prim.Native.Nat.{◌/◌}
use lib.ListN.{length}
use Rattle.records.specs.Records.{record_length}
use Rattle.trim.proofs.NamedRows.{Looked}
use Rattle.trim.proofs.named_rows.Given as goal

abbrev pub invariant-loop-i : goal.invariant-loop-i
invariant-loop-i l = Looked l.trace (length l.trace / record_length) l.most l.i
