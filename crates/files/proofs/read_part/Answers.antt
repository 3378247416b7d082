-- `files::read_part`. Invariant: the first bytes of the buffer are the next of the file (`Reading`).
use Rattle.std.proofs.Common.{arith}
use Rattle.files.proofs.CallLaws.{reading_start, reading_full, reading_next, reading_again, reading_last}
use Rattle.files.proofs.read_part.Goals.{in-Some, in-None}
use Rattle.files.proofs.read_part.Goals as goal

pub loop-init : goal.loop-init
loop-init c = reading_start _ _ _

pub returns-then-size-buf : goal.returns-then-size-buf
returns-then-size-buf c = reading_full _ _ _ _ _ _ c.loop.invariant c.if-size-buf.true

pub returns-in-Some-eq0 : goal.returns-in-Some-eq0
returns-in-Some-eq0 c =
    reading_last _ _ _ _ _ _
    c.loop.invariant
    _ _
    c.read_some.auto.buf
    c.if-size-buf.false
    c.in-Some-eq0.is
    c.in-Some-eq0.field-0-test
    c.in_ok-read_some.ensures

pub overflow_add-size : goal.overflow_add-size
overflow_add-size c =
    omega (arith, (reading_next _ _ _ _ _ _ c.loop.invariant _ _ c.read_some.auto.buf c.in-Some.is c.in_ok-read_some.ensures).within)

pub loop-preserved : goal.loop-preserved
loop-preserved c = elim c.match-branch-2.branch [
  | in-Some w ↦ rw w.size-is (reading_next _ _ _ _ _ _ c.loop.invariant _ _ c.read_some.auto.buf w.in-Some.is c.in_ok-read_some.ensures)
  | in-None w ↦ rw w.size-is (reading_again _ _ _ _ _ _ c.loop.invariant _ _ c.read_some.auto.buf w.in-None.is c.in_ok-read_some.ensures)
]
