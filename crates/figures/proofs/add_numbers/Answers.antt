use Rattle.std.proofs.Common.{refl, sym, ◌∙◌}
use Rattle.figures.proofs.CountedParts.{changing_start, changing_next, changing_end}
use Rattle.figures.proofs.add_numbers.Goals as goal

pub loop-k-init : goal.loop-k-init
loop-k-init c = changing_start _ _ _ c.requires

pub loop-k-preserved : goal.loop-k-preserved
loop-k-preserved c = changing_next _ _ _ _ _ _ c.loop-k.invariant c.loop-k-test.true refl

pub shape_of-total : goal.shape_of-total
shape_of-total c = c.loop-k.invariant.long ∙ sym c.requires

pub returns : goal.returns
returns c = changing_end _ _ _ _ _ c.loop-k.invariant c.loop-k-test.false
