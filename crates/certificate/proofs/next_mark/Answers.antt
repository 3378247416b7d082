-- Code by code.
use Rattle.certificate.proofs.FollowedMarks.{mark_exec, mark_file, mark_fork, mark_leaves, mark_stays}
use Rattle.certificate.proofs.next_mark.Goals as goal

pub returns-then-q-eq-EXEC_CODE : goal.returns-then-q-eq-EXEC_CODE
returns-then-q-eq-EXEC_CODE c = mark_exec _ _ _ c.if-q-eq-EXEC_CODE.true

pub returns-then-q-eq-NEW_FILE_CODE : goal.returns-then-q-eq-NEW_FILE_CODE
returns-then-q-eq-NEW_FILE_CODE c = mark_file _ _ _ c.if-q-eq-NEW_FILE_CODE.true

pub returns-then-q-eq-FORK_CODE : goal.returns-then-q-eq-FORK_CODE
returns-then-q-eq-FORK_CODE c = mark_fork _ _ _ c.if-q-eq-FORK_CODE.true

pub returns-then-q-ge-NEW_VOLATILE_CODE : goal.returns-then-q-ge-NEW_VOLATILE_CODE
returns-then-q-ge-NEW_VOLATILE_CODE c =
    mark_leaves c.args.marks.now c.args.n c.args.q c.requires.2 c.if-q-ge-NEW_VOLATILE_CODE.true

pub returns : goal.returns
returns c =
    mark_stays c.args.marks.now c.args.n c.args.q c.requires.2 c.if-q-eq-EXEC_CODE.false c.if-q-eq-NEW_FILE_CODE.false
    c.if-q-eq-FORK_CODE.false c.if-q-ge-NEW_VOLATILE_CODE.false c.receiver_of-to.ensures.0
