use Prim.Native.Nat.{◌*◌}
use Rattle.fields.proofs.RowWriting.{part_long}
use Rattle.normaliser.specs.Writer.{form_width}
use Rattle.normaliser.proofs.FormRows.{forms_start, forms_room, forms_next, forms_end}
use Rattle.normaliser.proofs.Sections.fill_forms.Goals as goal

pub loop-k-init : goal.loop-k-init
loop-k-init c =
    forms_start c.args.self.now.rules.records.now c.args.self.now.rules.mixtures.now c.args.self.now.accepted.spans _ c.requires

pub slice_bounds-put_row-end : goal.slice_bounds-put_row-end
slice_bounds-put_row-end c =
    forms_room c.args.self.now.rules.records.now c.args.self.now.rules.mixtures.now c.args.self.now.accepted.spans c.loop-k.invariant (rw c.rule_count-k-end.ensures at c.loop-k-test.true)

pub put_row-requires : goal.put_row-requires
put_row-requires c =
    let loop = c.loop-k in
    let taken = rw c.rule_count-k-end.ensures at c.loop-k-test.true in
    (part_long loop.forms (loop.k * form_width) form_width (forms_room c.args.self.now.rules.records.now c.args.self.now.rules.mixtures.now c.args.self.now.accepted.spans loop.invariant taken), taken)

pub loop-k-preserved : goal.loop-k-preserved
loop-k-preserved c =
    let loop = c.loop-k in
    let taken = rw c.rule_count-k-end.ensures at c.loop-k-test.true in
    forms_next c.args.self.now.rules.records.now c.args.self.now.rules.mixtures.now c.args.self.now.accepted.spans loop.invariant taken c.put_row.ensures

pub returns : goal.returns
returns c =
    forms_end c.args.self.now.rules.records.now c.args.self.now.rules.mixtures.now c.args.self.now.accepted.spans c.loop-k.invariant c.requires (rw c.rule_count-k-end.ensures at c.loop-k-test.false)
