-- An owner stays where both agree.
use mathlib.Core.Path.{sym}
use Rattle.composition.proofs.ComposedLaws.{owner_same, owner_other}
use Rattle.composition.proofs.common_owner.Goals as goal

pub returns-then-a-b : goal.returns-then-a-b
returns-then-a-b c = sym (owner_same _ _ c.if-a-b.true)

pub returns : goal.returns
returns c = sym (owner_other _ _ c.if-a-b.false)
