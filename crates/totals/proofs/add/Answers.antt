use Rattle.std.proofs.Common.{refl, rules}
use Rattle.figures.proofs.CountedParts.{changing_start, changing_next, changing_end}
use Rattle.totals.proofs.TotalLoop.{add_refused, bad_total, bad_figures, add_done}
use Rattle.totals.proofs.add.Goals as goal

pub returns-then-total-ne-FIGURES_LENGTH : goal.returns-then-total-ne-FIGURES_LENGTH
returns-then-total-ne-FIGURES_LENGTH c = let a = c.args in add_refused _ _ (bad_total a.total.now a.figures.now c.if-total-ne-FIGURES_LENGTH.true)

pub returns-then-figures-ne-FIGURES_LENGTH : goal.returns-then-figures-ne-FIGURES_LENGTH
returns-then-figures-ne-FIGURES_LENGTH c = let a = c.args in add_refused _ _ (bad_figures a.total.now a.figures.now c.if-total-ne-FIGURES_LENGTH.false c.if-figures-ne-FIGURES_LENGTH.true)

pub loop-k-init : goal.loop-k-init
loop-k-init c = changing_start _ _ _ c.if-total-ne-FIGURES_LENGTH.false

pub loop-k-preserved : goal.loop-k-preserved
loop-k-preserved c = changing_next _ _ _ _ _ _ c.loop-k.invariant (search rules) refl

pub returns : goal.returns
returns c =
    let a = c.args in
    add_done a.total.now a.figures.now c.if-total-ne-FIGURES_LENGTH.false c.if-figures-ne-FIGURES_LENGTH.false _ (changing_end _ _ _ _ _ c.loop-k.invariant (search rules))
