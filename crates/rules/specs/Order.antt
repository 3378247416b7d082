-- What the theorems say of a normal form, and of the width of a rule.
use Rattle.std.specs.Prelude.{ℕ, ◌^◌, ◌<◌, ◌≡◌, true, List, [], ◌∷◌}
use Rattle.rules.specs.Sets.{holds}
use Rattle.lists.specs.Lists.{elem}

-- each number of r is below all behind it
abbrev pub Ascending : List ℕ → Type 0
Ascending [] = Unit {0}
Ascending (m ∷ r) = ((n : ℕ) → elem n r ≡ true → m < n) × Ascending r

-- no mixture of r holds another
abbrev pub Antichain : List ℕ → Type 0
Antichain r = (m n : ℕ) → elem m r ≡ true → elem n r ≡ true → holds n m ≡ true → n ≡ m

-- each mixture of r is a set of the first w atoms
abbrev pub Within : ℕ → List ℕ → Type 0
Within w r = (m : ℕ) → elem m r ≡ true → m < 2 ^ w
