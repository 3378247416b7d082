use mathlib.Core.Path.{refl}
use Rattle.normaliser.proofs.HashLaws.{mixed_next, mixed_end}
use Rattle.normaliser.proofs.mixed.Goals as goal

pub loop-word-init : goal.loop-word-init
loop-word-init c = refl

pub loop-word-preserved : goal.loop-word-preserved
loop-word-preserved c = mixed_next c.args.words.now _ _ c.loop-word.invariant c.loop-word-test.true

pub returns : goal.returns
returns c = mixed_end c.args.words.now _ _ c.loop-word.invariant c.loop-word-test.false
