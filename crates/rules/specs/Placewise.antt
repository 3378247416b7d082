-- The quick way to a meet: "The meet of two rules is the normal form of all pairwise intersections", and of rules with equally many mixtures
-- mostly those place by place are it. Two tests tell; their theorems are `within_meet` and `alike_meet` (proofs/Theorems.antt).
use Rattle.std.specs.Prelude.{ℕ, Bool, not, ◌&&◌, List, [], ◌∷◌, ltb, length, get_or}
use Rattle.std.specs.Int.Bits.{bit_and}
use Rattle.lists.specs.Counting.{all_below}
use Rattle.rules.specs.Sets.{holds}
use Rattle.rules.specs.Rules.{covers}

-- the intersections place by place, as many as the shorter rule has mixtures
unfoldable pub placewise : List ℕ → List ℕ → List ℕ
placewise [] s = []
placewise (m ∷ r) [] = []
placewise (m ∷ r) (n ∷ s) = bit_and m n ∷ placewise r s

-- each mixture of r is held by the one of s at its place
unfoldable pub within : List ℕ → List ℕ → Bool
within r s = all_below (λ i. holds (get_or s i 0) (get_or r i 0)) (length r)

-- x is above y and does not hold it; one of the two holds c, and one d
unfoldable pub held_apart : (x y c d : ℕ) → Bool
held_apart x y c d = ltb y x && not (holds x y) && covers (x ∷ y ∷ []) c && covers (x ∷ y ∷ []) d

-- so the four intersections of two places: the later one has the mixtures m and k, the earlier one a and b
unfoldable pub pair_apart : (m k a b : ℕ) → Bool
pair_apart m k a b = held_apart (bit_and m k) (bit_and a b) (bit_and m b) (bit_and a k)

-- the place i of r and s passes that test with each place before it
unfoldable pub apart : List ℕ → List ℕ → ℕ → Bool
apart r s i = all_below (λ j. pair_apart (get_or r i 0) (get_or s i 0) (get_or r j 0) (get_or s j 0)) i

-- each two places do
unfoldable pub alike : List ℕ → List ℕ → Bool
alike r s = all_below (apart r s) (length r)
