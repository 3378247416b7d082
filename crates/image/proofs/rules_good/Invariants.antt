-- The records passed are good with their owners, and the first of the last one is carried along.
use Rattle.image.proofs.RuleRecordScan.{RulesScanned}
use Rattle.image.proofs.rules_good.Given as goal

abbrev pub invariant-loop-i : goal.invariant-loop-i
invariant-loop-i l = RulesScanned l.m l.users l.s l.n l.from l.i
