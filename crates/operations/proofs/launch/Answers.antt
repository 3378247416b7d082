-- `operations::launch`. The object's run rule, its running atoms and the process's data atoms make the row (`launch_done`).
use Rattle.operations.proofs.RowSteps.{run_kept, copied}
use Rattle.operations.proofs.EffectLaws.{launch_tag_lem, launch_done}
use Rattle.operations.proofs.launch.Goals as goal

pub rule_at-run-requires : goal.rule_at-run-requires
rule_at-run-requires c = (run_kept c.args.s.now c.args.o c.requires.1).kept

pub returns : goal.returns
returns c =
    let s = c.args.s.now in
    launch_done s c.args.p c.args.o c.args.u c.args.permit _ (copied s _ _ _ (run_kept s c.args.o c.requires.1) c.rule_at-run.ensures) _
    (launch_tag_lem s c.args.p c.args.o _ _ _ _ c.tag_of.ensures c.running_atoms-running.ensures c.tag_of-2.ensures c.add_data_atoms-tag.ensures) _ _ c.replace.ensures.0 c.replace.ensures.1
