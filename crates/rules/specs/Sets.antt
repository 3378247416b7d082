-- Sets of atoms as numbers, at any width (the paper, "Information and rules": "A tag or a mixture is a set").
-- No law and no definition of sets names the width of a tag.
use Rattle.std.specs.Prelude.{ℕ, ◌*◌, ◌/◌, ◌%◌, ◌^◌, Bool, eqb}
use Rattle.std.specs.Int.Bits.{bit_and}

-- "atom k being worth 2 to the k": 1 if the atom k is in the set m, else 0
unfoldable pub atom : ℕ → ℕ → ℕ
atom m k = m / 2 ^ k % 2

-- "holds all of the tag": each atom of t is in m
unfoldable pub holds : ℕ → ℕ → Bool
holds m t = eqb (bit_and m t) t

-- the data atoms of a set, where the atoms 0 to w - 1 are data
unfoldable pub data_of : ℕ → ℕ → ℕ
data_of w t = t % 2 ^ w

-- "The running twin of atom d is d + 32: the same content, executed": for each data atom d of a set the running
-- atom d + w, and nothing else. The paper coins "twin"; here it is the running atom.
unfoldable pub running_of : ℕ → ℕ → ℕ
running_of w t = data_of w t * 2 ^ w
