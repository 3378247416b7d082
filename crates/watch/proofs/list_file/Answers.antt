-- `watch::list_file`. Invariant: what is read is run, counted and its lines handed on (`Between`).
use mathlib.Core.Path.{refl}
use Rattle.watch.proofs.ListedTrace.{between_start, between_next, trace_listed}
use Rattle.watch.proofs.list_file.Goals as goal

pub loop-init : goal.loop-init
loop-init c = between_start _ _ _ _ _ c.no_tally-tally.ensures refl

pub returns-then-got : goal.returns-then-got
returns-then-got c =
    trace_listed _ _ _ _ _ _ _ _
    c.loop.invariant
    _ _ _
    c.in_ok-got.ensures
    _ _ _ _
    c.list_part-listed.ensures
    _
    c.in_ok-write_front.ensures
    c.if-got.true

pub loop-preserved : goal.loop-preserved
loop-preserved c =
    between_next _ _ _ _ _ _ _ _
    c.loop.invariant
    _ _ _
    c.in_ok-got.ensures
    _ _ _ _
    c.list_part-listed.ensures
    _
    c.in_ok-write_front.ensures
    c.if-got.false
    c.list_part-listed.auto.session
