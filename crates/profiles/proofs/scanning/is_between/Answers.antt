-- The two tests of the definition.
use borrow.Author.Tests.{lt-leb, le-leb}
use Rattle.profiles.specs.Profiles.{is_between}
use Rattle.profiles.proofs.scanning.is_between.Goals as goal

pub returns-then-b-low : goal.returns-then-b-low
unfolding is_between
returns-then-b-low c = simp (lt-leb _ _ c.if-b-low.true)

pub returns : goal.returns
unfolding is_between
returns c = simp (le-leb _ _ c.if-b-low.false)
