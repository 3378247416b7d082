use mathlib.Core.Path.{sym, ◌∙◌}
use Rattle.lists.proofs.Bools.{passes_test, fails_test}
use Rattle.withdrawals.specs.Returns.{stays_closed}
use Rattle.lists.proofs.Below.{passing_next, passing_fails, passing_end}
use Rattle.withdrawals.proofs.FitLaws.{row_fits_is}
use Rattle.withdrawals.proofs.stays_closed.Goals as goal

pub returns-then-not-row_fits : goal.returns-then-not-row_fits
unfolding stays_closed
returns-then-not-row_fits c =
    passing_fails _ _ _ c.loop-a-test.true
    (sym (row_fits_is _ _ _ c.requires _ _ _ c.loop-a-test.true c.reached_from-reached.ensures) ∙ fails_test c.row_fits.ensures c.if-not-row_fits.true-raw)

pub loop-a-preserved : goal.loop-a-preserved
loop-a-preserved c =
    passing_next _ _ _ c.loop-a.invariant c.loop-a-test.true
    (sym (row_fits_is _ _ _ c.requires _ _ _ c.loop-a-test.true c.reached_from-reached.ensures) ∙ passes_test c.row_fits.ensures c.if-not-row_fits.false-raw)

pub returns : goal.returns
unfolding stays_closed
returns c = passing_end _ _ _ c.loop-a.invariant c.loop-a-test.false
