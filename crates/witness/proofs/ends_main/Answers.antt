-- Code by code.
use mathlib.Core.Path.{◌∙◌}
use Rattle.witness.proofs.StepSources.{ends_write, ends_exec, ends_late}
use Rattle.witness.specs.Nodes.{family_of, is_rule}
use Rattle.witness.proofs.ends_main.Goals as goal

pub returns-then-q-eq-WRITE_CODE : goal.returns-then-q-eq-WRITE_CODE
returns-then-q-eq-WRITE_CODE c = ends_write c.args.q (is_rule (family_of c.args.followed)) c.if-q-eq-WRITE_CODE.true

pub returns-then-q-eq-EXEC_CODE : goal.returns-then-q-eq-EXEC_CODE
returns-then-q-eq-EXEC_CODE c = c.is_rule.ensures ∙ ends_exec c.args.q _ c.if-q-eq-EXEC_CODE.true

pub returns : goal.returns
returns c = ends_late c.args.q (is_rule (family_of c.args.followed)) c.requires c.if-q-eq-WRITE_CODE.false c.if-q-eq-EXEC_CODE.false
