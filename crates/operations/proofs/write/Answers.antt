-- `operations::write`. The process's tag and run rule replace the object's (`write_done`), unless the object is guarded and not permitted the tag (`write_blocked`).
use borrow.Author.Rules.{rules}
use Rattle.operations.proofs.ReadyLaws.{ready_process, ready_object}
use Rattle.operations.proofs.RowSteps.{run_kept, copied}
use Rattle.operations.proofs.EffectLaws.{lent_fit, write_blocked, write_done}
use mathlib.Core.Path.{refl, sym, ◌∙◌}
use Rattle.chains.specs.History.{write}
use Rattle.chains.specs.Table.{entry}
use Rattle.operations.proofs.write.Goals as goal

pub overflow_mul-p : goal.overflow_mul-p
unfolding entry
overflow_mul-p c = search rules

pub overflow_add-p : goal.overflow_add-p
unfolding entry
overflow_add-p c = search rules

pub rule_at-rule-requires : goal.rule_at-rule-requires
unfolding entry
rule_at-rule-requires c =
    (run_kept c.args.s.now c.args.p (ready_process c.args.s.now (write c.args.p c.args.o) c.requires)).kept

pub tag_of-tag-requires : goal.tag_of-tag-requires
unfolding entry
tag_of-tag-requires c = search rules

pub guards-requires : goal.guards-requires
unfolding entry
guards-requires c = (ready_object c.args.s.now (write c.args.p c.args.o) c.requires refl)

pub returns-then-guards : goal.returns-then-guards
unfolding entry
returns-then-guards c =
    let tag_of = c.tag_of-tag in
    write_blocked c.args.s.now c.args.p c.args.o _ tag_of.ensures
    (sym c.guards.ensures ∙ c.if-guards.true) _ c.blocked.ensures

pub overflow_mul-at : goal.overflow_mul-at
unfolding entry
overflow_mul-at c = search rules

pub overflow_add-at : goal.overflow_add-at
unfolding entry
overflow_add-at c = search rules

pub offset_bounds-s-at : goal.offset_bounds-s-at
unfolding entry
offset_bounds-s-at c = search rules

pub slice_bounds-update-end : goal.slice_bounds-update-end
unfolding entry
slice_bounds-update-end c = search rules

pub update-requires : goal.update-requires
unfolding entry
update-requires c =
    lent_fit c.args.s.now c.args.o (ready_object c.args.s.now (write c.args.p c.args.o) c.requires refl)

pub returns : goal.returns
unfolding entry
returns c =
    let rule_at_lem = c.rule_at-rule in
    let tag_of = c.tag_of-tag in
    let guards = c.guards in
    let if1 = c.if-guards in
    let update = c.update in
    let s = c.args.s.now in
    write_done s c.args.p c.args.o c.requires _
    (copied s _ _ _ (run_kept s c.args.p (ready_process s (write c.args.p c.args.o) c.requires)) rule_at_lem.ensures) _
    tag_of.ensures (sym guards.ensures ∙ if1.false) _ _ update.ensures.0 update.ensures.1
