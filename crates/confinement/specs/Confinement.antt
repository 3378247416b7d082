-- The policy that profiles stand for (change request No. 1), sentence by sentence.
use Rattle.std.specs.Prelude.{ℕ, suc, ◌+◌, ◌*◌, ◌^◌, Bool, false, cond, ◌||◌, List, [], ◌∷◌, ◌++◌, map, length, replicate}
use Rattle.std.specs.Int.Bits.{bit_or}
use Rattle.lists.specs.Lists.{same_list, known, position}
use Rattle.rules.specs.Rules.{normal}
use Rattle.rules.specs.Answers.{data_width}
use Rattle.image.specs.Limits.{file_kind, process_kind, no_atom, unrestricted_number, no_owner}
use Rattle.image.specs.Policy.{Container, Policy, unrestricted_rule}
use Rattle.profiles.specs.Profiles.{Mode, mode_r, mode_w, mode_a, mode_m, mode_ix, mode_px, mode_Px, mode_ux, mode_Ux, PathEntry, Profile, mode_text}

-- ---- paths

-- the paths that profiles name, line by line
unfoldable pub names_of : List Profile → List (List ℕ)
names_of [] = []
names_of (p ∷ ps) = p.path ∷ (map (λ e. e.path) p.entries ++ names_of ps)

-- a path that is new stands behind those so far
unfoldable pub with_path : List (List ℕ) → List ℕ → List (List ℕ)
with_path ns q = cond (known q ns) ns (ns ++ (q ∷ []))

unfoldable pub with_paths : List (List ℕ) → List (List ℕ) → List (List ℕ)
with_paths ns [] = ns
with_paths ns (q ∷ qs) = with_paths (with_path ns q) qs

-- "Each path becomes a file with the next atom in order of first appearance": the paths in that order; a path's place is its atom
unfoldable pub paths_of : List Profile → List (List ℕ)
paths_of ps = with_paths [] (names_of ps)

-- ---- modes

-- the mode is one of these: it has the same letters
unfoldable pub is_one_of : List Mode → Mode → Bool
is_one_of [] m = false
is_one_of (n ∷ ns) m = same_list (mode_text n) (mode_text m) || is_one_of ns m

-- one of the modes is one of these
unfoldable pub some_of : List Mode → List Mode → Bool
some_of wanted [] = false
some_of wanted (m ∷ ms) = is_one_of wanted m || some_of wanted ms

-- "files it may read (r, m)"
unfoldable pub reading : List Mode
reading = mode_r ∷ mode_m ∷ []

-- "those it may execute (any x mode)"
unfoldable pub executing : List Mode
executing = mode_ix ∷ mode_px ∷ mode_Px ∷ mode_ux ∷ mode_Ux ∷ []

-- "each program with w or a on it"
unfoldable pub writing : List Mode
writing = mode_w ∷ mode_a ∷ []

-- "if some ux or Ux names it", "naming it by ix", "if px or Px names it"
unfoldable pub unconfined : List Mode
unconfined = mode_ux ∷ mode_Ux ∷ []

unfoldable pub inheriting : List Mode
inheriting = mode_ix ∷ []

unfoldable pub confined : List Mode
confined = mode_px ∷ mode_Px ∷ []

-- "a path's lines within a profile add up": the modes of all lines that name it
unfoldable pub modes_among : List PathEntry → List ℕ → List Mode
modes_among [] q = []
modes_among (e ∷ es) q = cond (same_list q e.path) (e.modes ++ modes_among es q) (modes_among es q)

unfoldable pub modes_on : Profile → List ℕ → List Mode
modes_on p q = modes_among p.entries q

-- ---- the run mixture of a program

-- of the path with atom k: "the atoms of files it may read (r, m) and the twins of those it may execute" (a twin is a running atom)
unfoldable pub file_atoms : ℕ → List Mode → ℕ
file_atoms k ms = bit_or (cond (some_of reading ms) (2 ^ k) 0) (cond (some_of executing ms) (2 ^ (data_width + k)) 0)

-- of the paths from the k-th on
unfoldable pub atoms_from : ℕ → List (List ℕ) → Profile → ℕ
atoms_from k [] p = 0
atoms_from k (q ∷ qs) p = bit_or (file_atoms k (modes_on p q)) (atoms_from (suc k) qs p)

-- "A program's run mixture is its own twin" and these
unfoldable pub run_mixture : List (List ℕ) → Profile → ℕ
run_mixture ns p = bit_or (2 ^ (data_width + position p.path ns)) (atoms_from 0 ns p)

-- ---- the rules of a path

-- the programs that have one of the modes on it
unfoldable pub programs_with : List Mode → List ℕ → List Profile → List Profile
programs_with wanted q [] = []
programs_with wanted q (p ∷ ps) =
    cond (some_of wanted (modes_on p q)) (p ∷ programs_with wanted q ps) (programs_with wanted q ps)

-- the programs that are profiled under it
unfoldable pub profiles_at : List ℕ → List Profile → List Profile
profiles_at q [] = []
profiles_at q (p ∷ ps) = cond (same_list q p.path) (p ∷ profiles_at q ps) (profiles_at q ps)

-- the first list, unless it has no member
unfoldable pub or_else : {A : Type 0} → List A → List A → List A
or_else [] z = z
or_else (x ∷ xs) z = x ∷ xs

-- the first rule if there is such a program, else the second
unfoldable pub if_some : List Profile → List ℕ → List ℕ → List ℕ
if_some [] r z = z
if_some (p ∷ ps) r z = r

-- "A file's permit rule has, for each program with w or a on it, that program's run mixture with the file's atom added; with
-- none, its own atom."
unfoldable pub permit_mixtures : List (List ℕ) → List Profile → ℕ → List ℕ → List ℕ
permit_mixtures ns ps k q = or_else (map (λ p. bit_or (run_mixture ns p) (2 ^ k)) (programs_with writing q ps)) (2 ^ k ∷ [])

-- "that mixture is a profiled path's run rule"; "A path without a profile is unrestricted to run if some ux or Ux names it, else
-- takes the run mixtures of programs naming it by ix, else has no mixture if px or Px names it, else is unrestricted."
unfoldable pub run_mixtures : List (List ℕ) → List Profile → List ℕ → List ℕ
run_mixtures ns ps q =
    or_else (map (run_mixture ns) (profiles_at q ps))
    (if_some (programs_with unconfined q ps) unrestricted_rule
    (or_else (map (run_mixture ns) (programs_with inheriting q ps))
    (if_some (programs_with confined q ps) [] unrestricted_rule)))

-- ---- the policy

-- the rules of the paths from the k-th on, in normal form: permit rule and run rule of each
unfoldable pub rules_from : List (List ℕ) → List Profile → ℕ → List (List ℕ) → List (List ℕ)
rules_from ns ps k [] = []
rules_from ns ps k (q ∷ qs) = normal (permit_mixtures ns ps k q) ∷ normal (run_mixtures ns ps q) ∷ rules_from ns ps (suc k) qs

unfoldable pub rules_of : List Profile → List (List ℕ)
rules_of ps = rules_from (paths_of ps) ps 0 (paths_of ps)

-- the files of the paths from the k-th on, each with its atom and its two rules
unfoldable pub files_from : ℕ → List (List ℕ) → List Container
files_from k [] = []
files_from k (q ∷ qs) = record { kind = file_kind; atom = k; permit = 2 * k; run = 2 * k + 1 } ∷ files_from (suc k) qs

unfoldable pub initial_process : Container
initial_process = record { kind = process_kind; atom = no_atom; permit = unrestricted_number; run = unrestricted_number }

-- "One unrestricted user and, behind the files, one initial process are added"; "Policies derived or read from profiles have no owners"
-- (change request No. 10)
unfoldable pub profile_policy : List Profile → Policy
profile_policy ps =
    record {
      containers = files_from 0 (paths_of ps) ++ (initial_process ∷ []);
      users = unrestricted_number ∷ [];
      rules = rules_of ps;
      owners = replicate (length (rules_of ps)) no_owner;
    }
