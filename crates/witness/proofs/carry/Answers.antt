-- What is stored is the nodes and links after the step.
use native.Mathlib.Omega.{arith}
use lib.ListN.{length-set}
use Rattle.witness.proofs.CarryLaws.{carried}
use Rattle.witness.proofs.carry.Goals as goal

pub bounds-held-to-4 : goal.bounds-held-to-4
bounds-held-to-4 c = simp length-set (omega arith)

pub bounds-links-node-2 : goal.bounds-links-node-2
bounds-links-node-2 c = simp length-set (omega arith)

pub returns : goal.returns
returns c =
    carried _ _ _ _ _ _ _ _ _ _ _ _ c.receiver_of-to.ensures.0 c.main_source-main.ensures c.running_source-running.ensures c.ends_main.ensures
    c.ends_running.ensures c.next_node-main_node.ensures c.next_node-running_node.ensures
