use native.Mathlib.Omega.{arith}
use mathlib.Core.Path.{refl, ap, ◌∙◌}
use Rattle.records.specs.Records.{request_in}
use Rattle.trim.proofs.ReplayLaws.{record_part}
use Rattle.trim.proofs.NamedRows.{looked_start, looked_next, looked_all, leaves_named, leaves_all}
use Rattle.trim.proofs.named_rows.Goals as goal

pub loop-i-init : goal.loop-i-init
loop-i-init c = looked_start _ _ refl c.requires

pub overflow_mul-at : goal.overflow_mul-at
overflow_mul-at c = omega (arith, c.loop-i.invariant.whole, c.loop-i-test.true)

pub slice_bounds-request_of-end : goal.slice_bounds-request_of-end
slice_bounds-request_of-end c = omega (arith, c.loop-i.invariant.whole, c.loop-i-test.true)

pub loop-i-preserved : goal.loop-i-preserved
loop-i-preserved c =
    looked_next _ _ _ _ _ _ c.loop-i.invariant c.loop-i-test.true (c.request_of-request.ensures ∙ ap request_in (record_part _ _))
    (omega arith) (omega arith) (omega arith)

pub returns-then-most-ge-CONTAINER_LIMIT : goal.returns-then-most-ge-CONTAINER_LIMIT
returns-then-most-ge-CONTAINER_LIMIT c = (omega arith, leaves_all _)

pub returns : goal.returns
returns c = (omega (arith, c.if-most-ge-CONTAINER_LIMIT.false), leaves_named _ _ (looked_all _ _ _ _ c.loop-i.invariant c.loop-i-test.false) (omega (arith, c.if-most-ge-CONTAINER_LIMIT.false)))
