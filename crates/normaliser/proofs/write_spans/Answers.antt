use native.Mathlib.Omega.{arith}
use Rattle.fields.proofs.RowWriting.{rows_end}
use Rattle.normaliser.specs.Sections.{rule_section}
use Rattle.normaliser.proofs.RuleRows.{rule_here, spans_start, spans_room, spans_next, spans_count}
use Rattle.normaliser.proofs.write_spans.Goals as goal

pub loop-k-init : goal.loop-k-init
loop-k-init c =
    spans_start c.args.forms.now c.args.order.now _ _ c.requires.0

pub overflow_cast-v : goal.overflow_cast-v
overflow_cast-v c =
    omega (arith, c.type_inv.order c.loop-k.k-index)

pub overflow_mul-v : goal.overflow_mul-v
overflow_mul-v c =
    let here = rule_here c.args.forms.now c.args.order.now c.loop-k.k-index c.requires.1 c.loop-k-test.true in
    omega arith

pub offset_bounds-forms-v : goal.offset_bounds-forms-v
offset_bounds-forms-v c =
    let here = rule_here c.args.forms.now c.args.order.now c.loop-k.k-index c.requires.1 c.loop-k-test.true in
    omega arith

pub bounds-forms-v : goal.bounds-forms-v
bounds-forms-v c =
    let here = rule_here c.args.forms.now c.args.order.now c.loop-k.k-index c.requires.1 c.loop-k-test.true in
    omega arith

pub overflow_add-owner : goal.overflow_add-owner
overflow_add-owner c =
    let here = rule_here c.args.forms.now c.args.order.now c.loop-k.k-index c.requires.1 c.loop-k-test.true in
    omega arith

pub offset_bounds-forms-v-in-loop-k : goal.offset_bounds-forms-v-in-loop-k
offset_bounds-forms-v-in-loop-k c =
    let here = rule_here c.args.forms.now c.args.order.now c.loop-k.k-index c.requires.1 c.loop-k-test.true in
    omega arith

pub bounds-forms-v-in-loop-k : goal.bounds-forms-v-in-loop-k
bounds-forms-v-in-loop-k c =
    let here = rule_here c.args.forms.now c.args.order.now c.loop-k.k-index c.requires.1 c.loop-k-test.true in
    omega arith

pub put_rule_record-at-requires : goal.put_rule_record-at-requires
put_rule_record-at-requires c =
    let loop = c.loop-k in
    let taken = c.loop-k-test.true in
    let here = rule_here c.args.forms.now c.args.order.now loop.k-index c.requires.1 taken in
    spans_room c.args.forms.now c.args.order.now loop.invariant taken here

pub overflow_add-first : goal.overflow_add-first
overflow_add-first c =
    let loop = c.loop-k in
    let taken = c.loop-k-test.true in
    let here = rule_here c.args.forms.now c.args.order.now loop.k-index c.requires.1 taken in
    omega (arith, loop.invariant.small)

pub loop-k-preserved : goal.loop-k-preserved
loop-k-preserved c =
    let loop = c.loop-k in
    let taken = c.loop-k-test.true in
    let here = rule_here c.args.forms.now c.args.order.now loop.k-index c.requires.1 taken in
    spans_next c.args.forms.now c.args.order.now loop.invariant taken here c.put_rule_record-at.ensures

pub returns : goal.returns
unfolding rule_section
returns c =
    rows_end c.loop-k.invariant.rows (omega (arith, c.loop-k-test.false, spans_count c.args.forms.now c.args.order.now))
