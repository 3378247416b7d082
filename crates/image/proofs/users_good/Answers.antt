use Rattle.fields.proofs.SectionRecords.{scan_start, scan_next, scan_stop, scan_end}
use Rattle.lists.proofs.Bools.{passes_test, fails_test}
use Rattle.image.specs.Policy.{named}
use Rattle.fields.specs.Bytes.{number_in, field}
use Rattle.image.specs.Image.{users_in}
use mathlib.Core.Path.{sym}
use native.Mathlib.Omega.{arith}
use Rattle.image.specs.Limits.{user_size}
use Rattle.image.proofs.users_good.Goals as goal

pub loop-i-init : goal.loop-i-init
loop-i-init c = scan_start (named c.args.n) number_in user_size c.args.s.now

pub returns-then-not-is_named : goal.returns-then-not-is_named
unfolding users_in field
returns-then-not-is_named c =
    scan_stop (named c.args.n) number_in user_size c.args.s.now _ _ c.loop-i.invariant (omega arith)
    (sym (fails_test (rw c.read16.ensures.0 at c.is_named.ensures) c.if-not-is_named.true-raw))

pub loop-i-preserved : goal.loop-i-preserved
unfolding field
loop-i-preserved c =
    scan_next (named c.args.n) number_in user_size c.args.s.now _ _ c.loop-i.invariant (omega arith)
    (sym (passes_test (rw c.read16.ensures.0 at c.is_named.ensures) c.if-not-is_named.false-raw))

pub returns : goal.returns
unfolding users_in
returns c = scan_end (named c.args.n) number_in user_size c.args.s.now _ _ c.loop-i.invariant (omega arith)
