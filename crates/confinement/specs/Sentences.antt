-- What change request No. 1 says of paths and rules, as the theorems state it. A path's place among the paths ns is its atom.
use Rattle.std.specs.Prelude.{ℕ, ◌+◌, ◌<◌, ◌≡◌, ◌⊎◌, ◌≢◌, true, false, length, get_or}
use mathlib.Core.List.{List, [], Memᴰ}
use Rattle.rules.specs.Answers.{data_width}
use Rattle.profiles.specs.Profiles.{Mode, PathEntry, Profile}
use Rattle.confinement.specs.Confinement.{some_of, reading, executing, modes_on}

-- a profile names its own path and the path of each of its lines
abbrev pub Names : Profile → List ℕ → Type 0
Names p q = (q ≡ p.path) ⊎ ((e : PathEntry) × Memᴰ e p.entries × (q ≡ e.path))

-- the atom i is in the run mixture: it is an atom of "files it may read (r, m)", or its own running atom or that of one of
-- "those it may execute (any x mode)"
abbrev pub MayHold : List (List ℕ) → Profile → ℕ → Type 0
MayHold ns p i =
    (k : ℕ)
    × (k < length ns)
    × (((i ≡ k) × (some_of reading (modes_on p (get_or ns k [])) ≡ true))
    ⊎ ((i ≡ data_width + k) × ((get_or ns k [] ≡ p.path) ⊎ (some_of executing (modes_on p (get_or ns k [])) ≡ true))))

-- a program that has one of the modes on the path
abbrev pub SomeWith : List Profile → List Mode → List ℕ → Type 0
SomeWith ps wanted q = (p : Profile) × Memᴰ p ps × (some_of wanted (modes_on p q) ≡ true)

-- or none has
abbrev pub NoneWith : List Profile → List Mode → List ℕ → Type 0
NoneWith ps wanted q = (p : Profile) → Memᴰ p ps → some_of wanted (modes_on p q) ≡ false

-- a path without a profile
abbrev pub Unprofiled : List Profile → List ℕ → Type 0
Unprofiled ps q = (p : Profile) → Memᴰ p ps → q ≢ p.path
