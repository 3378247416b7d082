-- The places before c have their numbers.
use Rattle.lists.proofs.Copying.{Copied}
use Rattle.certificate.specs.Marks.{own_marks}
use Rattle.certificate.proofs.mark_own.Given as goal

abbrev pub invariant-loop-c : goal.invariant-loop-c
invariant-loop-c l = Copied own_marks l.initial.marks l.marks 0 l.c
