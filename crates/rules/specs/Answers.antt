-- The product's numbers ("There are 32 data atoms", "these 64", "0 to 8 mixtures"), and a rule as the functions answer it.
use Rattle.std.specs.Prelude.{ℕ, ◌-◌, cond, List, ◌++◌, leb, length, replicate, Option, Some, None}
use Rattle.rules.specs.declared.Bounded.{Bounded}

-- the data atoms are 0 to 31
abbrev pub data_width : ℕ
data_width = 32

-- all atoms, data and running, are 0 to 63
abbrev pub tag_width : ℕ
tag_width = 64

-- a rule has at most 8 mixtures
abbrev pub mixture_limit : ℕ
mixture_limit = 8

-- and two rules have at most 64 pairs of mixtures
abbrev pub pair_limit : ℕ
pair_limit = 64

-- the mixtures of a rule at the 8 places for them: unused ones are 0
unfoldable pub padded : List ℕ → List ℕ
padded r = r ++ replicate (mixture_limit - length r) 0

-- the rule r, of at most 8 mixtures, as the functions answer it
unfoldable pub bounded_of : List ℕ → Bounded
bounded_of r = record { count = length r; mixtures = padded r }

-- "0 to 8 mixtures": the same of any rule; over 8 mixtures, it does not fit, and there is none
unfoldable pub bounded_if_fits : List ℕ → Option Bounded
bounded_if_fits r = cond (leb (length r) mixture_limit) (Some (bounded_of r)) None
