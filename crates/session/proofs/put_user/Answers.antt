-- A user row is 1 and the words of the rule.
use lib.ListN.{length-set}
use native.Mathlib.Omega.{arith}
use Rattle.image.proofs.RulesByNumber.{normal_short}
use Rattle.session.proofs.WrittenRows.{user_put, user_long}
use Rattle.session.proofs.put_user.Goals as goal

pub slice_bounds-put_rule_at-end : goal.slice_bounds-put_rule_at-end
slice_bounds-put_rule_at-end c = simp length-set (omega arith)

pub shape_of-row : goal.shape_of-row
shape_of-row c =
    user_long c.args.row.now _ _ c.requires.0 c.put_rule_at.ensures
    (normal_short c.args.rules.records.now c.args.rules.mixtures.now c.args.n c.args.rules.good c.requires.1)

pub returns : goal.returns
returns c =
    user_put c.args.row.now _ _ c.requires.0 c.put_rule_at.ensures
