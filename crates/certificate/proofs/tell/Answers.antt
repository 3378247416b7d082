-- By the mark: the own rule, none, or that of a record.
use native.Mathlib.Omega.{arith}
use Rattle.certificate.proofs.ExecLaws.{mark_own, mark_nowhere, mark_room, mark_object, mark_made, mark_roomy, mark_exec}
use Rattle.certificate.proofs.tell.Goals as goal

pub returns-then-mark-lt-CONTAINER_LIMIT : goal.returns-then-mark-lt-CONTAINER_LIMIT
returns-then-mark-lt-CONTAINER_LIMIT c =
    mark_own c.args.image.bytes.now c.args.trace.now c.args.tag c.args.mark c.args.links.now c.args.steps.now c.if-mark-lt-CONTAINER_LIMIT.true
    c.own_told.ensures

pub returns-then-mark-eq-NOWHERE_MARK : goal.returns-then-mark-eq-NOWHERE_MARK
returns-then-mark-eq-NOWHERE_MARK c =
    mark_nowhere c.args.image.bytes.now c.args.trace.now c.args.tag c.args.mark c.args.links.now c.args.steps.now c.if-mark-lt-CONTAINER_LIMIT.false c.if-mark-eq-NOWHERE_MARK.true
    c.no_told.ensures

pub overflow_mul-at : goal.overflow_mul-at
overflow_mul-at c =
    omega (
      arith,
      mark_room c.args.image.bytes.now c.args.trace.now c.args.tag c.args.mark c.args.links.now c.args.steps.now c.if-mark-lt-CONTAINER_LIMIT.false c.if-mark-eq-NOWHERE_MARK.false
          c.requires.0,
    )

pub overflow_add-at : goal.overflow_add-at
overflow_add-at c =
    omega (
      arith,
      mark_room c.args.image.bytes.now c.args.trace.now c.args.tag c.args.mark c.args.links.now c.args.steps.now c.if-mark-lt-CONTAINER_LIMIT.false c.if-mark-eq-NOWHERE_MARK.false
          c.requires.0,
    )

pub slice_bounds-request_of-end : goal.slice_bounds-request_of-end
slice_bounds-request_of-end c =
    omega (
      arith,
      mark_room c.args.image.bytes.now c.args.trace.now c.args.tag c.args.mark c.args.links.now c.args.steps.now c.if-mark-lt-CONTAINER_LIMIT.false c.if-mark-eq-NOWHERE_MARK.false
          c.requires.0,
    )

pub returns-then-q-eq-NEW_FILE_CODE : goal.returns-then-q-eq-NEW_FILE_CODE
returns-then-q-eq-NEW_FILE_CODE c =
    mark_made c.args.image.bytes.now c.args.trace.now c.args.tag c.args.mark c.args.links.now c.args.steps.now c.if-mark-lt-CONTAINER_LIMIT.false c.if-mark-eq-NOWHERE_MARK.false
    c.requires.0 c.request_of-q.ensures c.if-q-eq-NEW_FILE_CODE.true c.user_told.ensures

pub slice_bounds-tell_exec-end : goal.slice_bounds-tell_exec-end
slice_bounds-tell_exec-end c =
    omega (
      arith,
      mark_room c.args.image.bytes.now c.args.trace.now c.args.tag c.args.mark c.args.links.now c.args.steps.now c.if-mark-lt-CONTAINER_LIMIT.false
          c.if-mark-eq-NOWHERE_MARK.false c.requires.0,
    )

pub tell_exec-requires : goal.tell_exec-requires
tell_exec-requires c = (
  mark_object c.args.image.bytes.now c.args.trace.now c.args.tag c.args.mark c.args.links.now c.args.steps.now c.if-mark-lt-CONTAINER_LIMIT.false c.if-mark-eq-NOWHERE_MARK.false
      c.requires.0 c.request_of-q.ensures,
  mark_roomy c.args.image.bytes.now c.args.trace.now c.args.tag c.args.mark c.args.links.now c.args.steps.now c.if-mark-lt-CONTAINER_LIMIT.false c.if-mark-eq-NOWHERE_MARK.false
      c.requires.0 c.request_of-q.ensures c.requires.1,
)

pub returns : goal.returns
returns c =
    let e = c.tell_exec.ensures in
    mark_exec c.args.image.bytes.now c.args.trace.now c.args.tag c.args.mark c.args.links.now c.args.steps.now c.if-mark-lt-CONTAINER_LIMIT.false c.if-mark-eq-NOWHERE_MARK.false
    c.requires.0 c.request_of-q.ensures c.if-q-eq-NEW_FILE_CODE.false e.0 e.1 e.2
