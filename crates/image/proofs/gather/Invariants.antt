-- The mixtures of the rule are copied one after the other.
use Rattle.lists.proofs.Copying.{Copied}
use Rattle.image.specs.Image.{mixtures_in}
use lib.ListN.{length, take, drop}
use Rattle.image.proofs.gather.Given as goal

abbrev pub invariant-loop-j : goal.invariant-loop-j
invariant-loop-j l = Copied (take (length l.initial.out) (drop l.first (mixtures_in l.m))) l.initial.out l.out 0 l.j
