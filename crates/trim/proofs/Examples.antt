-- Passes on small cuts, by computation: records that need one another, and a result that is not the shortest.
use Prim.Native.Nat.{ℕ}
use mathlib.Core.Path.{◌≡◌, refl}
use mathlib.Core.Bool.{Bool, not, ◌&&◌, ◌||◌}
use mathlib.Core.List.{List, [], ◌∷◌}
use Rattle.lists.specs.Lists.{elem, same_list}
use Rattle.trim.specs.Cuts.{pass_from, pass, trim_in}

-- 3 is needed, and 2 can only be there with 1, and 1 with 0: three forks in a chain, none of which the last record needs
unfoldable pub chained : List ℕ → Bool
chained ks = elem 3 ks && ((not (elem 2 ks) || elem 1 ks) && (not (elem 1 ks) || elem 0 ks))

-- a pass drops the end of the chain alone, so three want four passes, the last of which drops nothing
pub one_pass : pass chained (0 ∷ 1 ∷ 2 ∷ 3 ∷ []) ≡ 0 ∷ 1 ∷ 3 ∷ []
unfolding pass pass_from chained elem
one_pass = refl

pub three_passes : trim_in chained 3 (0 ∷ 1 ∷ 2 ∷ 3 ∷ []) ≡ 3 ∷ []
unfolding trim_in pass pass_from chained elem same_list
three_passes = refl

pub two_passes : trim_in chained 2 (0 ∷ 1 ∷ 2 ∷ 3 ∷ []) ≡ 0 ∷ 3 ∷ []
unfolding trim_in pass pass_from chained elem same_list
two_passes = refl

-- either 0 does, or 1 and 2 together: from first to last 0 goes, and the longer cut is left
unfoldable pub either_way : List ℕ → Bool
either_way ks = elem 0 ks || (elem 1 ks && elem 2 ks)

pub not_shortest : trim_in either_way 3 (0 ∷ 1 ∷ 2 ∷ []) ≡ 1 ∷ 2 ∷ []
unfolding trim_in pass pass_from either_way elem same_list
not_shortest = refl
