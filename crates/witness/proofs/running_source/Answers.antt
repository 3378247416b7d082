-- Code by code.
use mathlib.Core.Path.{sym, ◌∙◌}
use Rattle.witness.proofs.StepSources.{running_rule, running_exec, running_write, running_append, running_fork, running_none}
use Rattle.witness.specs.Nodes.{family_of, is_rule}
use Rattle.witness.proofs.running_source.Goals as goal

pub returns-then-is_rule : goal.returns-then-is_rule
returns-then-is_rule c = running_rule c.args.q c.args.held.now (is_rule (family_of c.args.followed)) (sym c.is_rule.ensures ∙ c.if-is_rule.true)

pub returns-then-q-eq-EXEC_CODE : goal.returns-then-q-eq-EXEC_CODE
returns-then-q-eq-EXEC_CODE c = running_exec _ _ _ (sym c.is_rule.ensures ∙ c.if-is_rule.false) c.if-q-eq-EXEC_CODE.true

pub returns-then-q-eq-WRITE_CODE : goal.returns-then-q-eq-WRITE_CODE
returns-then-q-eq-WRITE_CODE c = running_write _ _ _ (sym c.is_rule.ensures ∙ c.if-is_rule.false) c.if-q-eq-WRITE_CODE.true

pub returns-then-q-eq-APPEND_CODE : goal.returns-then-q-eq-APPEND_CODE
returns-then-q-eq-APPEND_CODE c = running_append _ _ _ (sym c.is_rule.ensures ∙ c.if-is_rule.false) c.if-q-eq-APPEND_CODE.true

pub returns-then-q-eq-FORK_CODE : goal.returns-then-q-eq-FORK_CODE
returns-then-q-eq-FORK_CODE c = running_fork _ _ _ (sym c.is_rule.ensures ∙ c.if-is_rule.false) c.if-q-eq-FORK_CODE.true

pub returns : goal.returns
returns c =
    running_none c.args.q c.args.held.now (is_rule (family_of c.args.followed)) c.requires.1 c.if-q-eq-EXEC_CODE.false c.if-q-eq-WRITE_CODE.false c.if-q-eq-APPEND_CODE.false c.if-q-eq-FORK_CODE.false
