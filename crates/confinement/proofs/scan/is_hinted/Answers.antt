-- The hint is right if the path there is the same.
use Rattle.confinement.proofs.PathSearch.{no_hint, hinted}
use Rattle.confinement.proofs.scan.is_hinted.Goals as goal

pub returns-then-n-hint : goal.returns-then-n-hint
returns-then-n-hint c = no_hint _ _ _ _ _ _

pub same_path-requires : goal.same_path-requires
same_path-requires c = (c.requires.1, c.requires.0.within _ c.if-n-hint.false)

pub returns : goal.returns
returns c = hinted _ _ _ _ _ _ _ c.requires.0 c.if-n-hint.false c.same_path.ensures
