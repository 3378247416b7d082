-- `trim::counts_behind`: the second session is made the first, and tried.
use Rattle.trim.proofs.PairLaws.{pair_tried}
use Rattle.trim.proofs.counts_behind.Goals as goal

pub returns : goal.returns
returns c =
    pair_tried _ _ _ _ c.requires.0 c.copy.ensures c.cut_counts.ensures
