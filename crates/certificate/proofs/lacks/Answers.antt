-- The atom is looked at in the tag, then in the mixture.
use Rattle.certificate.proofs.FollowedMarks.{lacks_none, lacks_one}
use Rattle.certificate.proofs.lacks.Goals as goal

pub returns-then-tag-k-eq0 : goal.returns-then-tag-k-eq0
returns-then-tag-k-eq0 c = lacks_none _ _ _ c.if-tag-k-eq0.true

pub returns : goal.returns
returns c = lacks_one _ _ _ c.if-tag-k-eq0.false
