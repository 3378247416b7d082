-- Code by code.
use Rattle.witness.proofs.StepSources.{receiver_read, receiver_exec, receiver_other}
use Rattle.witness.proofs.receiver_of.Goals as goal

pub returns-then-q-eq-READ_CODE : goal.returns-then-q-eq-READ_CODE
returns-then-q-eq-READ_CODE c = (receiver_read c.args.q c.if-q-eq-READ_CODE.true, c.requires.process)

pub returns-then-q-eq-EXEC_CODE : goal.returns-then-q-eq-EXEC_CODE
returns-then-q-eq-EXEC_CODE c = (receiver_exec c.args.q c.if-q-eq-EXEC_CODE.true, c.requires.process)

pub returns : goal.returns
returns c = (receiver_other c.args.q c.requires c.if-q-eq-READ_CODE.false c.if-q-eq-EXEC_CODE.false, c.requires.object)
