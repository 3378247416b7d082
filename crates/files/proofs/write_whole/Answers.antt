-- `files::write_whole`. Invariant: the first bytes are handed on (`Writing`).
use Rattle.std.proofs.Common.{arith}
use Rattle.files.proofs.CallLaws.{writing_start, writing_next, writing_again, writing_end}
use Rattle.files.proofs.write_whole.Goals.{in-Some, in_default}
use Rattle.files.proofs.write_whole.Goals as goal

pub loop-init : goal.loop-init
loop-init c = writing_start _ _

pub returns-then-done-bytes : goal.returns-then-done-bytes
returns-then-done-bytes c = writing_end _ _ _ _ c.loop.invariant c.if-done-bytes.true

pub overflow_add-done : goal.overflow_add-done
overflow_add-done c =
    omega (arith, (writing_next _ _ _ _ c.loop.invariant c.in-Some.is c.in_ok-n.ensures).within)

pub loop-preserved : goal.loop-preserved
loop-preserved c = elim c.match-branch-2.branch [
  | in-Some w ↦ rw w.done-is (writing_next _ _ _ _ c.loop.invariant w.in-Some.is c.in_ok-n.ensures)
  | in_default w ↦ rw w.done-is (writing_again _ _ _ _ c.loop.invariant w.in_default.is c.in_ok-n.ensures)
]
