use mathlib.Core.Path.{sym, ◌∙◌}
use Rattle.composition.proofs.RecordLoops.{comparing_start, comparing_other, comparing_kind, comparing_atom, comparing_next, comparing_end}
use Rattle.composition.proofs.same_containers.Goals as goal

pub returns-then-b-n : goal.returns-then-b-n
returns-then-b-n c = comparing_other _ _ c.if-b-n.true

pub loop-i-init : goal.loop-i-init
loop-i-init c = comparing_start _ _ c.if-b-n.false

pub returns-then-read8 : goal.returns-then-read8
returns-then-read8 c =
    comparing_kind _ _ _ c.loop-i.invariant c.loop-i-test.true
    (λ e. c.if-read8.true (c.read8.ensures.0 ∙ e ∙ sym c.read8-in-loop-i.ensures.0))

pub returns-then-read8-2 : goal.returns-then-read8-2
returns-then-read8-2 c = comparing_atom _ _ _ c.loop-i.invariant
    c.loop-i-test.true (sym c.read8.ensures.0
    ∙ c.if-read8.false ∙ c.read8-in-loop-i.ensures.0)
    (λ e. c.if-read8-2.true (c.read8-in-loop-i-2.ensures.0 ∙ e ∙ sym c.read8-in-loop-i-3.ensures.0))

pub loop-i-preserved : goal.loop-i-preserved
loop-i-preserved c = comparing_next _ _ _ c.loop-i.invariant
    c.loop-i-test.true (sym c.read8.ensures.0
    ∙ c.if-read8.false ∙ c.read8-in-loop-i.ensures.0)
    (sym c.read8-in-loop-i-2.ensures.0 ∙ c.if-read8-2.false ∙ c.read8-in-loop-i-3.ensures.0)

pub returns : goal.returns
returns c = comparing_end _ _ _ c.loop-i.invariant c.loop-i-test.false
