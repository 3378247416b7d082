-- None is counted where the matrix is consistent, else the first one is looked for.
use Rattle.matrix.proofs.VerdictLoops.{judged_none}
use Rattle.matrix.proofs.judge_flows.Goals as goal

pub returns-then-count-eq0 : goal.returns-then-count-eq0
returns-then-count-eq0 c = judged_none _ _ _ _ c.count_flows-count.ensures c.if-count-eq0.true
