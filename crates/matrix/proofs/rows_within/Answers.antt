use Rattle.matrix.proofs.RowLoops.{checking_next, checking_bad, checking_end}
use Rattle.matrix.proofs.rows_within.Goals as goal

pub returns-then-bound-both : goal.returns-then-bound-both
returns-then-bound-both c =
    checking_bad _ _ _ _ c.requires.0 c.loop-s.invariant c.loop-s-test.true c.if-bound-both.true

pub loop-s-preserved : goal.loop-s-preserved
loop-s-preserved c =
    checking_next _ _ _ _ c.requires.0 c.loop-s.invariant c.loop-s-test.true c.if-bound-both.false

pub returns : goal.returns
returns c = checking_end _ _ _ _ c.loop-s.invariant c.loop-s-test.false
