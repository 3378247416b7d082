use Rattle.matrix.proofs.RowBits.{one_bit}
use Rattle.silence.proofs.PermitLaws.{permit_own, permitting_start, permitting_skip, permitting_miss, permitting_found, permitting_end}
use Rattle.silence.proofs.permits.Goals as goal
use Rattle.silence.proofs.permits.Goals.{else-w-b-eq1-via-then-w-b-eq1+else-r-own, else-w-b-eq1-via-else-w-b-eq1}

pub returns-then-own-tag : goal.returns-then-own-tag
returns-then-own-tag c = permit_own _ _ _ _ _ (one_bit _ c.requires.1) c.if-own-tag.true

pub loop-s-init : goal.loop-s-init
loop-s-init c = permitting_start _ _ _ _ c.requires.0

pub returns-then-r-own : goal.returns-then-r-own
returns-then-r-own c =
    permitting_found c.loop-s.invariant c.loop-s-test.true c.if-w-b-eq1.true _ (one_bit _ c.requires.1) c.if-r-own.true

pub loop-s-preserved : goal.loop-s-preserved
loop-s-preserved c =
    elim c.else-w-b-eq1.branch [
      | else-w-b-eq1-via-then-w-b-eq1+else-r-own w ↦
          permitting_miss c.loop-s.invariant c.loop-s-test.true w.if-w-b-eq1.true _ (one_bit _ c.requires.1) w.if-r-own.false
      | else-w-b-eq1-via-else-w-b-eq1 w ↦ permitting_skip c.loop-s.invariant c.loop-s-test.true w.if-w-b-eq1.false
    ]

pub returns : goal.returns
returns c = permitting_end c.loop-s.invariant c.loop-s-test.false _ (one_bit _ c.requires.1) c.if-own-tag.false
