use native.Mathlib.Omega.{arith}
use mathlib.Core.Path.{sym, ◌∙◌}
use Rattle.trim.proofs.TrimLoop.{trimming_start, trimming_ready, trimming_next, trimming_end}
use borrow.Author.Rules.{rules}
use Rattle.trim.proofs.passes.Goals as goal

pub loop-kept-init : goal.loop-kept-init
loop-kept-init c = trimming_start _ _ _ _ _ _ _ c.requires

pub pass-kept-requires : goal.pass-kept-requires
pass-kept-requires c =
    trimming_ready _ _ _ _ _ _ _ _ _ c.loop-kept.invariant _ c.start.ensures.1 (search rules)

pub loop-kept-preserved : goal.loop-kept-preserved
loop-kept-preserved c =
    trimming_next _ _ _ _ _ _ _ _ _ c.loop-kept.invariant _ c.start.ensures.1 _ _ _ _ c.pass-kept.ensures (search rules) (search rules) (search rules)

pub shape_of-before : goal.shape_of-before
shape_of-before c = c.loop-kept.invariant.first ∙ sym c.requires.first

pub shape_of-work : goal.shape_of-work
shape_of-work c = c.loop-kept.invariant.second ∙ sym c.requires.second

pub shape_of-positions : goal.shape_of-positions
shape_of-positions c = c.loop-kept.invariant.room ∙ sym c.requires.room

pub returns : goal.returns
returns c = trimming_end _ _ _ _ _ _ _ _ _ c.loop-kept.invariant (omega arith)
