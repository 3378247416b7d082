-- The invariant: the objects before b are quiet.
use Rattle.lists.proofs.Below.{Passing}
use Rattle.silence.specs.Silent.{quiet_object}
use Rattle.silence.proofs.all_quiet.Given as goal

abbrev pub invariant-loop-b : goal.invariant-loop-b
invariant-loop-b l = Passing (quiet_object l.reads l.writes l.n) l.n l.b
