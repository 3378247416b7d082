-- Mixtures that agree are passed one after the other.
use mathlib.Core.Path.{◌≡◌}
use lib.ListN.{length, take, drop}
use Rattle.lists.specs.Lists.{same_list}
use Rattle.image.specs.Image.{mixtures_in}
use Rattle.witness.proofs.same_mixtures.Given as goal

abbrev pub invariant-loop-j : goal.invariant-loop-j
invariant-loop-j l =
    same_list (drop l.j (take (length l.rule) (drop l.first (mixtures_in l.m)))) (drop l.j l.rule) ≡ same_list (take (length l.rule) (drop l.first (mixtures_in l.m))) l.rule
