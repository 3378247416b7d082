use native.Mathlib.Omega.{arith}
use mathlib.Core.Path.{sym, ◌∙◌}
use Rattle.profiles.proofs.ModeLaws.{modes_start, modes_stop, mode_fits, mode_wide, modes_next, modes_end_lem}
use Rattle.profiles.proofs.scanning.modes_at.Goals as goal

pub loop-i-init : goal.loop-i-init
loop-i-init c = modes_start c.args.text.now c.args.at c.requires

pub returns-in_default : goal.returns-in_default
returns-in_default c = modes_stop _ _ _ _ c.loop-i.invariant (sym c.in_default.is ∙ c.mode_at.ensures)

pub overflow_add-i : goal.overflow_add-i
overflow_add-i c = omega (arith, mode_fits _ _ _ _ c.loop-i.invariant _ (sym c.in-Some.is ∙ c.mode_at.ensures) c.loop-i-test.true)

pub loop-i-smaller : goal.loop-i-smaller
loop-i-smaller c = omega (arith, mode_wide _ _ _ _ c.loop-i.invariant _ (sym c.in-Some.is ∙ c.mode_at.ensures) c.loop-i-test.true)

pub loop-i-preserved : goal.loop-i-preserved
loop-i-preserved c = modes_next _ _ _ _ c.loop-i.invariant _ (sym c.in-Some.is ∙ c.mode_at.ensures) c.loop-i-test.true

pub returns : goal.returns
returns c = modes_end_lem _ _ _ _ c.loop-i.invariant c.loop-i-test.false
