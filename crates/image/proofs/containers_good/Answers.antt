use Rattle.fields.proofs.SectionRecords.{scan_start, scan_next, scan_stop, scan_end}
use Rattle.lists.proofs.Bools.{passes_test, fails_test}
use Rattle.image.specs.Policy.{container_good}
use Rattle.image.specs.Limits.{container_size}
use Rattle.image.specs.Image.{container_in, containers_in}
use lib.ListN.{length-take, length-drop}
use native.Mathlib.Nat.{add-sub_cancel_left}
use mathlib.Core.Path.{sym}
use native.Mathlib.Omega.{arith}
use Rattle.image.proofs.containers_good.Goals as goal

pub loop-i-init : goal.loop-i-init
loop-i-init c = scan_start (container_good c.args.n) container_in container_size c.args.s.now

pub container_good-requires : goal.container_good-requires
container_good-requires c = simp (length-take, length-drop, add-sub_cancel_left) (omega arith)

pub returns-then-not-container_good : goal.returns-then-not-container_good
unfolding containers_in
returns-then-not-container_good c =
    scan_stop (container_good c.args.n) container_in container_size c.args.s.now _ _ c.loop-i.invariant (omega arith)
    (sym (fails_test (rw add-sub_cancel_left at c.container_good.ensures) c.if-not-container_good.true-raw))

pub loop-i-preserved : goal.loop-i-preserved
loop-i-preserved c =
    scan_next (container_good c.args.n) container_in container_size c.args.s.now _ _ c.loop-i.invariant (omega arith)
    (sym (passes_test (rw add-sub_cancel_left at c.container_good.ensures) c.if-not-container_good.false-raw))

pub returns : goal.returns
unfolding containers_in
returns c = scan_end (container_good c.args.n) container_in container_size c.args.s.now _ _ c.loop-i.invariant (omega arith)
