-- As many links and numbers as the records need.
use Rattle.witness.proofs.TraceParts.{ceil_count}
use Rattle.witness.proofs.ExplainLaws.{lent_short, lent_long}
use Rattle.witness.proofs.lent_good.Goals as goal

pub returns-then-links-count : goal.returns-then-links-count
returns-then-links-count c = lent_short _ _ _ (ceil_count _ c.div_ceil-count.ensures) c.if-links-count.true

pub returns : goal.returns
returns c = lent_long _ _ _ (ceil_count _ c.div_ceil-count.ensures) c.if-links-count.false
