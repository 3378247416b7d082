-- `trim::number`: the places before i have their numbers.
use Rattle.lists.specs.Counting.{count_from}
use Rattle.lists.proofs.Copying.{Copied}
use Rattle.trim.specs.Trims.{trim_limit}
use Rattle.trim.proofs.number.Given as goal

abbrev pub invariant-loop-i : goal.invariant-loop-i
invariant-loop-i l = Copied (count_from 0 trim_limit) l.initial.positions l.positions 0 l.i
