use Rattle.matrix.proofs.RowLoops.{GrantedAt, stored_next, granted_is, granted_end}
use Rattle.matrix.proofs.fill_granted.Goals as goal

pub loop-a-preserved : goal.loop-a-preserved
loop-a-preserved c =
    let l = c.loop-a in
    stored_next (GrantedAt c.args.reads.now c.args.writes.now) _ _ _ _ _ l.invariant c.loop-a-test.true
    (granted_is _ _ _ _ c.granted_row.type_inv c.granted_row.ensures)

pub returns : goal.returns
returns c = granted_end _ _ _ _ _ _ c.loop-a.invariant c.loop-a-test.false
