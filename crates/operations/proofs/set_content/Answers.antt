-- `operations::set_content`. Two stores leave the row's kind and permit rule (`content_put`).
use mathlib.Core.Path.{refl, ap, ◌∙◌}
use lib.ListN.{length, length-set}
use native.Mathlib.Omega.{arith}
use Rattle.operations.proofs.RowSteps.{content_put, content_long}
use borrow.Author.Rules.{rules}
use Rattle.operations.proofs.set_content.Goals as goal

pub slice_bounds-put_rule-end : goal.slice_bounds-put_rule-end
slice_bounds-put_rule-end c = simp length-set (omega arith)

pub shape_of-row : goal.shape_of-row
shape_of-row c =
    ap length (content_put c.args.row.now c.args.tag c.requires c.put_rule.new.words
    c.args.run c.put_rule.ensures) ∙ content_long c.args.row.now
    c.args.tag c.requires c.args.run _ refl (search rules)

pub returns : goal.returns
returns c =
    let put_rule = c.put_rule in
    content_put c.args.row.now c.args.tag c.requires put_rule.new.words c.args.run put_rule.ensures
