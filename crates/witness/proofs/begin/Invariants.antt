-- Container by container (`Beginning`).
use Rattle.image.specs.Image.{policy_in}
use Rattle.witness.specs.Nodes.{family_of}
use Rattle.witness.proofs.BeginLaws.{Beginning}
use Rattle.witness.proofs.begin.Given as goal

abbrev pub invariant-loop-c : goal.invariant-loop-c
invariant-loop-c l = Beginning (policy_in l.image.bytes.now).containers (policy_in l.image.bytes.now).rules (family_of l.followed) l.held l.c
