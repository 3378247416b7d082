use mathlib.Core.Path.{refl, ◌∙◌}
use native.Mathlib.Omega.{arith}
use Rattle.matrix.proofs.RowLoops.{stored_next}
use Rattle.matrix.proofs.SubjectReach.{reaching_start, passed_next}
use Rattle.matrix.proofs.reach_flows.Goals as goal

pub loop-s-init : goal.loop-s-init
loop-s-init c =
    record {
      place = omega arith;
      fit = omega arith;
      long = refl;
      done = λ i l. absurd (omega arith);
      rest = λ i l. refl;
    }

pub loop-s-preserved : goal.loop-s-preserved
loop-s-preserved c = stored_next _ _ _ _ _ _ c.loop-s.invariant c.loop-s-test.true refl

pub loop-k-init : goal.loop-k-init
loop-k-init c =
    let s = c.loop-s.invariant in
    record {
      place = omega arith;
      long = omega (arith, s.long);
      rows = reaching_start _ _ _ c.requires.0 (λ i l. s.done i (omega (arith, c.loop-s-test.false)));
    }

pub loop-k-preserved : goal.loop-k-preserved
loop-k-preserved c =
    let l = c.loop-k in
    let t = c.loop-k-test in
    record {
      place = omega (arith, t.true);
      long = c.pass_through.auto.reach ∙ l.invariant.long;
      rows = passed_next _ _ _ _ _ _ t.true c.requires.2 l.invariant.rows c.pass_through.ensures;
    }
