-- Code by code.
use mathlib.Core.Path.{ap}
use Rattle.witness.specs.declared.Followed.{Followed}
use Rattle.witness.proofs.StepSources.{main_read, main_write, main_append, main_fork, main_exec_atom, main_exec_rule, main_none}
use Rattle.witness.specs.Nodes.{family_of, is_rule}
use Rattle.witness.proofs.main_source.Goals as goal

pub returns-then-q-eq-READ_CODE : goal.returns-then-q-eq-READ_CODE
returns-then-q-eq-READ_CODE c = main_read _ _ _ c.if-q-eq-READ_CODE.true

pub returns-then-q-eq-WRITE_CODE : goal.returns-then-q-eq-WRITE_CODE
returns-then-q-eq-WRITE_CODE c = main_write _ _ _ c.if-q-eq-WRITE_CODE.true

pub returns-then-q-eq-APPEND_CODE : goal.returns-then-q-eq-APPEND_CODE
returns-then-q-eq-APPEND_CODE c = main_append _ _ _ c.if-q-eq-APPEND_CODE.true

pub returns-then-q-eq-FORK_CODE : goal.returns-then-q-eq-FORK_CODE
returns-then-q-eq-FORK_CODE c = main_fork _ _ _ c.if-q-eq-FORK_CODE.true

pub returns-then-q-ne-EXEC_CODE : goal.returns-then-q-ne-EXEC_CODE
returns-then-q-ne-EXEC_CODE c =
    main_none c.args.q c.args.held.now (is_rule (family_of c.args.followed)) c.requires.1 c.if-q-eq-READ_CODE.false c.if-q-eq-WRITE_CODE.false c.if-q-eq-APPEND_CODE.false
    c.if-q-eq-FORK_CODE.false c.if-q-ne-EXEC_CODE.true

pub returns-in-Atom : goal.returns-in-Atom
returns-in-Atom c = main_exec_atom c.args.q c.args.held.now _ c.if-q-ne-EXEC_CODE.false (ap (λ (f : Followed). is_rule (family_of f)) c.in-Atom.is)

pub returns-in-Rule : goal.returns-in-Rule
returns-in-Rule c = main_exec_rule c.args.q c.args.held.now _ c.if-q-ne-EXEC_CODE.false (ap (λ (f : Followed). is_rule (family_of f)) c.in-Rule.is)
