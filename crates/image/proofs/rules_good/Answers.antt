use Rattle.image.proofs.RuleRecordScan.{rules_start, rules_first, rules_count, rules_over, rules_owner, rules_next, rules_end}
use Rattle.lists.proofs.Bools.{passes_test, fails_test}
use native.Mathlib.Omega.{arith}
use Rattle.image.proofs.rules_good.Goals as goal

pub loop-i-init : goal.loop-i-init
loop-i-init c = rules_start c.args.m c.args.users c.args.s.now

pub returns-then-first-from : goal.returns-then-first-from
returns-then-first-from c =
    rules_first c.args.m c.args.users c.args.s.now _ _ _ c.loop-i.invariant (omega arith)
    (rw c.read16-first.ensures.0 at c.if-first-from.true)

pub returns-then-count-gt-MIXTURE_LIMIT : goal.returns-then-count-gt-MIXTURE_LIMIT
returns-then-count-gt-MIXTURE_LIMIT c =
    rules_count c.args.m c.args.users c.args.s.now _ _ _ c.loop-i.invariant (omega arith)
    (rw c.read16-first.ensures.0 at c.if-first-from.false)
    (rw c.read16-count.ensures.0 at c.if-count-gt-MIXTURE_LIMIT.true)

pub returns-then-m-first : goal.returns-then-m-first
returns-then-m-first c =
    rules_over c.args.m c.args.users c.args.s.now _ _ _ c.loop-i.invariant (omega arith)
    (rw c.read16-first.ensures.0 at c.if-first-from.false)
    (rw c.read16-count.ensures.0 at c.if-count-gt-MIXTURE_LIMIT.false)
    (rw (c.read16-first.ensures.0, c.read16-count.ensures.0) at c.if-m-first.true)

pub returns-then-not-is_owner : goal.returns-then-not-is_owner
returns-then-not-is_owner c =
    rules_owner c.args.m c.args.users c.args.s.now _ _ _ c.loop-i.invariant (omega arith)
    (fails_test (rw c.read16-owner.ensures.0 at c.is_owner.ensures) c.if-not-is_owner.true-raw)

pub loop-i-preserved : goal.loop-i-preserved
loop-i-preserved c =
    rw c.read16-first.ensures.0
    (rules_next c.args.m c.args.users c.args.s.now _ _ _ c.loop-i.invariant (omega arith)
    (rw c.read16-first.ensures.0 at c.if-first-from.false)
    (rw c.read16-count.ensures.0 at c.if-count-gt-MIXTURE_LIMIT.false)
    (rw (c.read16-first.ensures.0, c.read16-count.ensures.0) at c.if-m-first.false)
    (passes_test (rw c.read16-owner.ensures.0 at c.is_owner.ensures) c.if-not-is_owner.false-raw))

pub returns : goal.returns
returns c = rules_end c.args.m c.args.users c.args.s.now _ _ _ c.loop-i.invariant (omega arith)
