-- A container row is kind, tag, the words of two rules, and on whose behalf.
use Prim.Native.Nat.{ℕ, suc}
use mathlib.Core.Path.{ap, ap₂, ◌∙◌}
use mathlib.Core.List.{List, [], ◌∷◌, ◌++◌}
use lib.ListN.{length, length-set}
use native.Mathlib.Omega.{arith}
use Rattle.session.proofs.WrittenRows.{row_mid, row_put, row_long}
use borrow.Author.Rules.{rules}
use Rattle.session.proofs.put_row.Goals as goal

pub slice_bounds-put_rule-end : goal.slice_bounds-put_rule-end
slice_bounds-put_rule-end c = simp length-set (omega arith)

pub slice_bounds-put_rule-end-2 : goal.slice_bounds-put_rule-end-2
slice_bounds-put_rule-end-2 c =
    omega (
      arith,
      row_mid c.args.row.now c.put_rule.new.words c.args.behalf c.args.kind c.args.tag c.requires
          (ap length c.put_rule.ensures ∙ ap suc (search rules)),
    )

pub shape_of-row : goal.shape_of-row
shape_of-row c =
    row_long c.args.row.now c.put_rule.new.words c.args.behalf c.args.kind c.args.tag
    c.requires (ap length c.put_rule.ensures ∙ ap suc (search rules))
    c.put_rule-2.new.words (ap length c.put_rule-2.ensures ∙ ap suc (search rules))

pub returns : goal.returns
returns c =
    row_put c.args.row.now c.put_rule.new.words c.args.behalf c.args.kind c.args.tag
    c.requires (ap length c.put_rule.ensures ∙ ap suc (search rules)) c.put_rule-2.new.words
    ∙ ap₂ (λ (x y : List ℕ). c.args.kind ∷ c.args.tag ∷ (x ++ (y ++ (c.args.behalf ∷ []))))
    c.put_rule.ensures c.put_rule-2.ensures
