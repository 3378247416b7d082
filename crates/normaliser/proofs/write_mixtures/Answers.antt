use native.Mathlib.Omega.{arith}
use Rattle.fields.proofs.WritingLaws.{wrote_as}
use Rattle.fields.proofs.RowWriting.{rows_start, rows_end}
use Rattle.normaliser.proofs.RuleRows.{rule_here, mixture_rows_lem, mixtures_are, mixtures_fit, mixtures_room, mixtures_next}
use Rattle.normaliser.proofs.write_mixtures.Goals as goal

pub loop-k-init : goal.loop-k-init
loop-k-init c =
    rows_start _ _ _ (mixtures_fit c.args.forms.now c.args.order.now _ _ c.requires.0)

pub overflow_cast-v : goal.overflow_cast-v
overflow_cast-v c = omega (arith, c.type_inv.order c.loop-k.k-index)

pub overflow_mul-v : goal.overflow_mul-v
overflow_mul-v c =
    let here = rule_here c.args.forms.now c.args.order.now c.loop-k.k-index c.requires.1 c.loop-k-test.true in
    omega arith

pub offset_bounds-forms-v : goal.offset_bounds-forms-v
offset_bounds-forms-v c =
    let here = rule_here c.args.forms.now c.args.order.now c.loop-k.k-index c.requires.1 c.loop-k-test.true in
    omega arith

pub bounds-forms-v : goal.bounds-forms-v
bounds-forms-v c =
    let here = rule_here c.args.forms.now c.args.order.now c.loop-k.k-index c.requires.1 c.loop-k-test.true in
    omega arith

pub overflow_add-v : goal.overflow_add-v
overflow_add-v c =
    let here = rule_here c.args.forms.now c.args.order.now c.loop-k.k-index c.requires.1 c.loop-k-test.true in
    omega arith

pub overflow_add-v-in-loop-k : goal.overflow_add-v-in-loop-k
overflow_add-v-in-loop-k c =
    let here = rule_here c.args.forms.now c.args.order.now c.loop-k.k-index c.requires.1 c.loop-k-test.true in
    omega arith

pub overflow_add-v-in-loop-k-2 : goal.overflow_add-v-in-loop-k-2
overflow_add-v-in-loop-k-2 c =
    let here = rule_here c.args.forms.now c.args.order.now c.loop-k.k-index c.requires.1 c.loop-k-test.true in
    omega arith

pub offset_bounds-forms-v-in-loop-k : goal.offset_bounds-forms-v-in-loop-k
offset_bounds-forms-v-in-loop-k c =
    let here = rule_here c.args.forms.now c.args.order.now c.loop-k.k-index c.requires.1 c.loop-k-test.true in
    omega arith

pub slice_bounds-write_rule-count : goal.slice_bounds-write_rule-count
slice_bounds-write_rule-count c =
    let here = rule_here c.args.forms.now c.args.order.now c.loop-k.k-index c.requires.1 c.loop-k-test.true in
    omega arith

pub slice_bounds-write_rule-start : goal.slice_bounds-write_rule-start
slice_bounds-write_rule-start c =
    let here = rule_here c.args.forms.now c.args.order.now c.loop-k.k-index c.requires.1 c.loop-k-test.true in
    omega arith

pub slice_bounds-write_rule-end : goal.slice_bounds-write_rule-end
slice_bounds-write_rule-end c =
    let here = rule_here c.args.forms.now c.args.order.now c.loop-k.k-index c.requires.1 c.loop-k-test.true in
    omega arith

pub write_rule-at-requires : goal.write_rule-at-requires
write_rule-at-requires c =
    let loop = c.loop-k in
    let taken = c.loop-k-test.true in
    let here = rule_here c.args.forms.now c.args.order.now loop.k-index c.requires.1 taken in
    rw here.part (mixtures_room c.args.forms.now c.args.order.now loop.invariant taken)

pub loop-k-preserved : goal.loop-k-preserved
loop-k-preserved c =
    let loop = c.loop-k in
    let taken = c.loop-k-test.true in
    let here = rule_here c.args.forms.now c.args.order.now loop.k-index c.requires.1 taken in
    mixtures_next c.args.forms.now c.args.order.now loop.invariant taken (rw here.part at c.write_rule-at.ensures)

pub returns : goal.returns
returns c =
    wrote_as (mixtures_are c.args.forms.now c.args.order.now)
    (rows_end c.loop-k.invariant (omega (arith, c.loop-k-test.false, mixture_rows_lem c.args.forms.now c.args.order.now)))
