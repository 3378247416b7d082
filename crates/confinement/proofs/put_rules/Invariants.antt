-- `confinement::put_rules`. The invariant: the words of the rules so far, each of which fits (`Forming`).
use mathlib.Core.Path.{◌≡◌}
use lib.ListN.{length}
use Rattle.rules.specs.Answers.{data_width}
use Rattle.confinement.specs.Tables.{rule_from}
use Rattle.confinement.proofs.PathRuleRows.{Forming}
use Rattle.confinement.proofs.put_rules.Given as goal

abbrev pub invariant-loop-i : goal.invariant-loop-i
invariant-loop-i l = Forming (rule_from l.own l.modes l.runs) l.count l.forms l.i × (length l.words ≡ data_width)
