-- Nine mixtures of a meet that are seen at once: the contracts of private functions. No public contract cites this file.
-- An intersection that only one mixture of each rule holds is in the meet, since no other intersection holds it.
use Rattle.std.specs.Prelude.{ℕ, Bool, not, ◌&&◌, ◌||◌, List, eqb, leb, length, get_or}
use Rattle.std.specs.Int.Bits.{bit_and}
use Rattle.lists.specs.Counting.{all_below}
use Rattle.rules.specs.Sets.{holds}

-- the place k is i, or its mixture m holds none of the three
unfoldable pub same_or_none : (k i m x y z : ℕ) → Bool
same_or_none k i m x y z = eqb k i || not (holds m x) && not (holds m y) && not (holds m z)

-- no mixture of r but the one at i holds one of its intersections with the first three of s
unfoldable pub alone : List ℕ → List ℕ → ℕ → Bool
alone r s i = all_below (λ k. same_or_none k i (get_or r k 0) (bit_and (get_or r i 0) (get_or s 0 0)) (bit_and (get_or r i 0) (get_or s 1 0)) (bit_and (get_or r i 0) (get_or s 2 0))) (length r)

-- so it is for each of the first three of r
unfoldable pub three_alone : List ℕ → List ℕ → Bool
three_alone r s = all_below (alone r s) 3

-- both rules have three mixtures, and so it is for those of either with those of the other
unfoldable pub nine : List ℕ → List ℕ → Bool
nine r s = leb 3 (length r) && leb 3 (length s) && three_alone r s && three_alone s r
