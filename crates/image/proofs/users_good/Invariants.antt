-- The numbers passed name a rule.
use Rattle.fields.proofs.SectionRecords.{Scanned}
use Rattle.image.specs.Policy.{named}
use Rattle.fields.specs.Bytes.{number_in}
use Rattle.image.specs.Limits.{user_size}
use Prim.Native.Nat.{◌/◌}
use lib.ListN.{length}
use Rattle.image.proofs.users_good.Given as goal

abbrev pub invariant-loop-i : goal.invariant-loop-i
invariant-loop-i l = Scanned (named l.n) number_in user_size l.s (length l.s / user_size) l.i
