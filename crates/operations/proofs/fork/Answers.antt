-- `operations::fork`. Both rules and the tag are copied (`fork_done`).
use Rattle.operations.proofs.ReadyLaws.{ready_process}
use Rattle.operations.proofs.RowSteps.{permit_kept, run_kept, copied}
use Rattle.operations.proofs.EffectLaws.{fork_fit, fork_done}
use Rattle.chains.specs.History.{fork}
use Rattle.chains.specs.Table.{entry}
use borrow.Author.Rules.{rules}
use Rattle.operations.proofs.fork.Goals as goal

pub overflow_mul-p : goal.overflow_mul-p
unfolding entry
overflow_mul-p c = search rules

pub overflow_add-p : goal.overflow_add-p
unfolding entry
overflow_add-p c = search rules

pub rule_at-permit-requires : goal.rule_at-permit-requires
unfolding entry
rule_at-permit-requires c =
    (permit_kept c.args.s.now c.args.p
    (ready_process c.args.s.now (fork c.args.p c.args.o) c.requires)).kept

pub overflow_mul-p-2 : goal.overflow_mul-p-2
unfolding entry
overflow_mul-p-2 c = search rules

pub overflow_add-p-2 : goal.overflow_add-p-2
unfolding entry
overflow_add-p-2 c = search rules

pub rule_at-run-requires : goal.rule_at-run-requires
unfolding entry
rule_at-run-requires c =
    (run_kept c.args.s.now c.args.p (ready_process c.args.s.now (fork c.args.p c.args.o) c.requires)).kept

pub tag_of-tag-requires : goal.tag_of-tag-requires
unfolding entry
tag_of-tag-requires c = search rules

pub behalf_of-behalf-requires : goal.behalf_of-behalf-requires
unfolding entry
behalf_of-behalf-requires c = search rules

pub overflow_mul-b : goal.overflow_mul-b
unfolding entry
overflow_mul-b c = search rules

pub overflow_add-b : goal.overflow_add-b
unfolding entry
overflow_add-b c = search rules

pub offset_bounds-s-b : goal.offset_bounds-s-b
unfolding entry
offset_bounds-s-b c = search rules

pub slice_bounds-replace-end : goal.slice_bounds-replace-end
unfolding entry
slice_bounds-replace-end c = search rules

pub replace-requires : goal.replace-requires
unfolding entry
replace-requires c =
    let s = c.args.s.now in
    fork_fit s c.args.p c.args.o c.requires _ (copied s _ _ _ (permit_kept s c.args.p
    (ready_process s (fork c.args.p c.args.o) c.requires)) c.rule_at-permit.ensures)

pub returns : goal.returns
unfolding entry
returns c =
    let s = c.args.s.now in
    fork_done s c.args.p c.args.o c.requires _ (copied s _ _ _ (permit_kept s c.args.p
    (ready_process s (fork c.args.p c.args.o) c.requires)) c.rule_at-permit.ensures) _ (copied s _ _ _
    (run_kept s c.args.p (ready_process s (fork c.args.p c.args.o) c.requires))
    c.rule_at-run.ensures) _ c.tag_of-tag.ensures _
    c.behalf_of-behalf.ensures _ _ c.replace.ensures.0
    c.replace.ensures.1
