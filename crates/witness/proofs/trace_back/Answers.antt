use native.Mathlib.Omega.{arith}
use mathlib.Core.Path.{refl}
use Rattle.witness.proofs.BackLaws.{following_start, following_some, following_next, following_none, following_end, following_inside}
use Rattle.witness.proofs.trace_back.Goals as goal

pub loop-v-init : goal.loop-v-init
loop-v-init c = following_start _ _ _

pub overflow_sub-first : goal.overflow_sub-first
overflow_sub-first c = (following_some _ _ _ _ _ _ c.loop-v.invariant c.loop-v-test.true c.requires.1).0

pub bounds-steps-first : goal.bounds-steps-first
bounds-steps-first c = omega (arith, c.loop-v.invariant.within, (following_some _ _ _ _ _ _ c.loop-v.invariant c.loop-v-test.true c.requires.1).0)

pub bounds-links-v : goal.bounds-links-v
bounds-links-v c = omega (arith, c.loop-v.invariant.low, c.requires.0)

pub loop-v-smaller : goal.loop-v-smaller
loop-v-smaller c = (following_some _ _ _ _ _ _ c.loop-v.invariant c.loop-v-test.true c.requires.1).1

pub loop-v-preserved : goal.loop-v-preserved
loop-v-preserved c =
    let f = following_some _ _ _ _ _ _ c.loop-v.invariant c.loop-v-test.true c.requires.1 in
    following_next _ _ _ _ _ _ c.loop-v.invariant c.loop-v-test.true f.0 f.1 _ refl

pub returns-then-v-eq0 : goal.returns-then-v-eq0
returns-then-v-eq0 c = (λ ns w st room. following_none _ _ _ _ _ _ c.loop-v.invariant c.loop-v-test.false ns w st room c.if-v-eq0.true, tt)

pub returns : goal.returns
returns c =
    let b = c.requires.1 in (
      λ ns w st room. following_end _ _ _ _ _ _ c.loop-v.invariant c.loop-v-test.false ns w st room c.if-v-eq0.false,
      following_inside _ _ _ _ _ _ c.loop-v.invariant c.loop-v-test.false b.0 b.1 b.2 b.3 c.if-v-eq0.false,
    )
