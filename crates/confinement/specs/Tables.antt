-- What the code keeps of a text that is good: paths by their places, and the modes of each program on each path as bits. The
-- rules of a path are worked out from these numbers.
use Rattle.std.specs.Prelude.{ℕ, zero, suc, ◌+◌, ◌*◌, ◌/◌, ◌%◌, ◌^◌, ◌≤◌, ◌<◌, ◌≡◌, Bool, true, false, not, cond, List, [], ◌∷◌, ◌++◌, map, eqb, leb, length, get_or, take, drop, replicate}
use Rattle.std.specs.Prelude.{Result, Err, IfOk}
use Rattle.std.specs.Int.Bits.{bit_and, bit_or}
use Rattle.answers.specs.declared.Refusal.{Refusal}
use Rattle.answers.specs.declared.Refusal.TheVariants as V
use Rattle.answers.specs.Outcomes.{outcome_number}
use Rattle.normaliser.specs.Normaliser.{written_number}
use Rattle.fields.specs.Writing.{Wrote}
use Rattle.image.specs.Limits.{unrestricted_number, no_owner, output_bound}
use Rattle.image.specs.Policy.{Policy, unrestricted_rule}
use Rattle.image.specs.Normal.{normal_image}
use Rattle.rules.specs.Rules.{normal}
use Rattle.rules.specs.Answers.{data_width, mixture_limit}
use Rattle.lists.specs.Lists.{every, joined, position}
use Rattle.normaliser.specs.Writer.{unowned, form_width, form_row}
use Rattle.profiles.specs.Profiles.{Profile}
use Rattle.profiles.specs.Scanning.{mode_bits}
use Rattle.confinement.specs.Confinement.{paths_of, modes_on, or_else, files_from, initial_process}

-- ---- paths

-- a path by the place where it begins and its length
abbrev pub path_at : List ℕ → ℕ → ℕ → List ℕ
path_at t start size = take size (drop start t)

-- the table of paths: the first n places and lengths are those of the paths ns
pub record PathTable (t : List ℕ) (ns : List (List ℕ)) (starts sizes : List ℕ) (n : ℕ) : Type 0 where
  pub count : n ≡ length ns
  pub few : n ≤ data_width
  pub starts_long : length starts ≡ data_width
  pub sizes_long : length sizes ≡ data_width
  pub paths : (k : ℕ) → k < n → path_at t (get_or starts k 0) (get_or sizes k 0) ≡ get_or ns k []
  pub within : (k : ℕ) → k < n → get_or starts k 0 + get_or sizes k 0 ≤ length t

-- ---- programs

abbrev pub no_profile : Profile
no_profile = record { path = []; entries = [] }

-- the places of the table of modes: a row of 32 for each program
abbrev pub cell_count : ℕ
cell_count = data_width * data_width

-- the table of programs: the number of each one's own path, and its modes on each path
pub record ProgramTable (ns : List (List ℕ)) (ps : List Profile) (own modes : List ℕ) (m : ℕ) : Type 0 where
  pub count : m ≡ length ps
  pub few : m ≤ data_width
  pub own_long : length own ≡ data_width
  pub modes_long : length modes ≡ cell_count
  pub owns : (j : ℕ) → j < m → get_or own j 0 ≡ position (get_or ps j no_profile).path ns
  pub cells : (j k : ℕ) → j < m → k < length ns → get_or modes (j * data_width + k) 0 ≡ mode_bits (modes_on (get_or ps j no_profile) (get_or ns k []))

-- ---- modes as bits

-- the bits of the wanted modes
abbrev pub reading_bits : ℕ
reading_bits = 17

abbrev pub executing_bits : ℕ
executing_bits = 992

abbrev pub writing_bits : ℕ
writing_bits = 6

abbrev pub unconfined_bits : ℕ
unconfined_bits = 768

abbrev pub inheriting_bits : ℕ
inheriting_bits = 32

abbrev pub confined_bits : ℕ
confined_bits = 192

-- two sets of bits meet
unfoldable pub meets : ℕ → ℕ → Bool
meets bits wanted = not (eqb (bit_and bits wanted) 0)

-- the atoms of the path with atom k
unfoldable pub file_bits : ℕ → ℕ → ℕ
file_bits k bits = bit_or (cond (meets bits reading_bits) (2 ^ k) 0) (cond (meets bits executing_bits) (2 ^ (data_width + k)) 0)

-- the atoms of paths from the k-th on, whose bits stand in a row
unfoldable pub row_atoms : ℕ → List ℕ → ℕ
row_atoms k [] = 0
row_atoms k (b ∷ bs) = bit_or (file_bits k b) (row_atoms (suc k) bs)

-- the run mixture of a program by the number of its own path and its row
unfoldable pub row_mixture : ℕ → List ℕ → ℕ
row_mixture own row = bit_or (2 ^ (data_width + own)) (row_atoms 0 row)

-- ---- lists by place

-- n members from the j-th on
unfoldable pub list_from : (ℕ → ℕ) → ℕ → ℕ → List ℕ
list_from f j zero = []
list_from f j (suc n) = f j ∷ list_from f (suc j) n

-- the row of a program, of n paths
abbrev pub row_at : List ℕ → ℕ → ℕ → List ℕ
row_at modes n j = take n (drop (j * data_width) modes)

-- the run mixtures of m programs
abbrev pub mixtures : List ℕ → List ℕ → ℕ → ℕ → List ℕ
mixtures own modes n m = list_from (λ j. row_mixture (get_or own j 0) (row_at modes n j)) 0 m

-- ---- the programs of a path

-- the bits of m programs on the path with atom k
abbrev pub column_at : List ℕ → ℕ → ℕ → List ℕ
column_at modes k m = list_from (λ j. get_or modes (j * data_width + k) 0) 0 m

-- of programs by their bits on a path and their run mixtures: the mixtures, with more atoms, of those that have a wanted mode
unfoldable pub chosen_by : ℕ → ℕ → List ℕ → List ℕ → List ℕ
chosen_by wanted more [] runs = []
chosen_by wanted more (b ∷ bs) [] = []
chosen_by wanted more (b ∷ bs) (r ∷ runs) =
    cond (meets b wanted) (bit_or r more ∷ chosen_by wanted more bs runs) (chosen_by wanted more bs runs)

-- of those whose own path has this number
unfoldable pub chosen_at : ℕ → List ℕ → List ℕ → List ℕ
chosen_at k [] runs = []
chosen_at k (o ∷ own) [] = []
chosen_at k (o ∷ own) (r ∷ runs) = cond (eqb o k) (r ∷ chosen_at k own runs) (chosen_at k own runs)

-- the first rule if the list has a member, else the second
unfoldable pub if_any : List ℕ → List ℕ → List ℕ → List ℕ
if_any [] r z = z
if_any (m ∷ ms) r z = r

-- the permit rule of the path with atom k, by the bits of programs on it and their run mixtures
unfoldable pub permit_from : ℕ → List ℕ → List ℕ → List ℕ
permit_from k bits runs = or_else (chosen_by writing_bits (2 ^ k) bits runs) (2 ^ k ∷ [])

-- its run rule where no program is profiled under it or names it unconfined
unfoldable pub inherited_from : List ℕ → List ℕ → List ℕ
inherited_from bits runs = or_else (chosen_by inheriting_bits 0 bits runs) (if_any (chosen_by confined_bits 0 bits runs) [] unrestricted_rule)

-- its run rule, also by the numbers of their own paths
unfoldable pub run_from : ℕ → List ℕ → List ℕ → List ℕ → List ℕ
run_from k own bits runs =
    or_else (chosen_at k own runs) (if_any (chosen_by unconfined_bits 0 bits runs) unrestricted_rule (inherited_from bits runs))

-- ---- what the functions give

-- a list of m members stands at the front
pub record Listed (l words : List ℕ) (m : ℕ) : Type 0 where
  pub front : take m words ≡ l
  pub count : m ≡ length l
  pub long : length words ≡ data_width

-- the row of a rule that nobody owns
abbrev pub plain_row : List ℕ → List ℕ
plain_row r = form_row (unowned r)

-- the normal form of a rule was put as a row, if it fits; else all is as it was
pub record FormPut (r before after : List ℕ) (fits : Bool) : Type 0 where
  pub told : fits ≡ leb (length (normal r)) mixture_limit
  pub words : after ≡ cond fits (plain_row (normal r)) before

-- ---- all rules

-- the i-th rule as it is stated: permit rule and run rule of each path in turn
unfoldable pub rule_from : List ℕ → List ℕ → List ℕ → ℕ → List ℕ
rule_from own modes runs i =
    cond (eqb (i % 2) 0)
    (permit_from (i / 2) (column_at modes (i / 2) (length runs)) runs)
    (run_from (i / 2) own (column_at modes (i / 2) (length runs)) runs)

-- n rules from the j-th on, in normal form
unfoldable pub forms_from : (ℕ → List ℕ) → ℕ → ℕ → List (List ℕ)
forms_from f j zero = []
forms_from f j (suc n) = normal (f j) ∷ forms_from f (suc j) n

abbrev pub short_rule : List ℕ → Bool
short_rule r = leb (length r) mixture_limit

-- two rules for each path
abbrev pub rule_count : ℕ
rule_count = 2 * data_width

-- the rows of all rules were put, if each fits
pub record FormsPut (f : ℕ → List ℕ) (count : ℕ) (forms : List ℕ) (fits : Bool) : Type 0 where
  pub told : fits ≡ every short_rule (forms_from f 0 count)
  pub words : fits ≡ true → take (count * form_width) forms ≡ joined (map plain_row (forms_from f 0 count))

-- ---- the policy

-- the policy of the tables: n files, a process, one unrestricted user
unfoldable pub table_policy : List ℕ → List ℕ → ℕ → ℕ → Policy
table_policy own modes n m =
    record {
      containers = files_from 0 (replicate n []) ++ (initial_process ∷ []);
      users = unrestricted_number ∷ [];
      rules = forms_from (rule_from (take m own) modes (mixtures own modes n m)) 0 (2 * n);
      owners = replicate (2 * n) no_owner;
    }

-- the tables are those of profiles
pub record Tabulated (ps : List Profile) (own modes : List ℕ) (n m : ℕ) : Type 0 where
  pub paths : n ≡ length (paths_of ps)
  pub few : n ≤ data_width
  pub programs : ProgramTable (paths_of ps) ps own modes m

-- of some profiles
pub record TabulatedOfSome (own modes : List ℕ) (n m : ℕ) : Type 0 where
  pub profiles : List Profile
  pub tables : Tabulated profiles own modes n m

-- 17 if a rule does not fit, else the length of the image, which is written
pub record PolicyWritten (p : Policy) (before after : List ℕ) (r : Result ℕ Refusal) : Type 0 where
  pub over : every short_rule p.rules ≡ false → (r ≡ Err V.ProfileLimit) × (after ≡ before)
  pub fits : every short_rule p.rules ≡ true → (outcome_number r ≡ 0) × Wrote (normal_image p) before after 0 (written_number r)
  pub short : IfOk r (λ n. n ≤ output_bound)
