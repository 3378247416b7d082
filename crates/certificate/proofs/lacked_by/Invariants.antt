-- The atoms before k are not lacked.
use Rattle.lists.proofs.Below.{Failing}
use Rattle.rules.specs.Answers.{tag_width}
use Rattle.certificate.specs.Origins.{lacks_at}
use Rattle.certificate.proofs.lacked_by.Given as goal

abbrev pub invariant-loop-k : goal.invariant-loop-k
invariant-loop-k l = Failing (lacks_at l.tag l.mixture) tag_width l.k
