use borrow.Author.Rules.{rules}
use native.Mathlib.Omega.{arith}
use borrow.Author.Tests.{not-true, not-false}
use Rattle.fields.proofs.RowWriting.{part_long}
use Rattle.confinement.proofs.PathRuleRows.{forming_start, form_room, forming_over, forming_next, forming_end, forming_stop}
use Rattle.confinement.proofs.put_rules.Goals as goal

pub loop-i-init : goal.loop-i-init
loop-i-init c = (forming_start _ _ _ c.requires.2 c.requires.0, c.requires.1)

pub slice_bounds-put_path_rule-end : goal.slice_bounds-put_path_rule-end
slice_bounds-put_path_rule-end c = form_room _ _ _ _ c.loop-i.invariant.0 c.loop-i-test.true

pub put_path_rule-requires : goal.put_path_rule-requires
put_path_rule-requires c =
    let inv = c.loop-i.invariant.0 in (
      part_long _ _ _ (form_room _ _ _ _ inv c.loop-i-test.true),
      c.loop-i.invariant.1,
      omega
          (arith, c.requires.2, c.loop-i-test.true),
      c.requires.3,
      c.requires.4,
      c.requires.5,
    )

pub returns-then-not-put_path_rule : goal.returns-then-not-put_path_rule
returns-then-not-put_path_rule c =
    forming_stop _ _ _ (forming_over _ _ _ _ c.loop-i.invariant.0 c.loop-i-test.true c.put_path_rule.ensures (not-true _ c.if-not-put_path_rule.true-raw))

pub loop-i-preserved : goal.loop-i-preserved
loop-i-preserved c =
    (forming_next _ _ _ _ c.loop-i.invariant.0 c.loop-i-test.true _ c.put_path_rule.ensures (not-false _ c.if-not-put_path_rule.false-raw), search rules)

pub returns : goal.returns
returns c = forming_end _ _ _ _ c.loop-i.invariant.0 c.loop-i-test.false
