-- The conditions in rights and flows, as the theorems state them.
use Rattle.std.specs.Prelude.{ℕ, ◌≡◌, true, false, List, ◌⊎◌, length}
use Rattle.matrix.specs.Flows.{matrix_good, granted, Composed, Matrix}
use Rattle.matrix.specs.Rows.{bit_at}
use Rattle.withdrawals.specs.Judgements.{with_right}

-- three matrices, of as many subjects and as many objects
pub record Comparable (old required proposed : Matrix) : Type 0 where
  pub old_good : matrix_good old.reads old.writes old.objects ≡ true
  pub required_good : matrix_good required.reads required.writes required.objects ≡ true
  pub proposed_good : matrix_good proposed.reads proposed.writes proposed.objects ≡ true
  pub required_subjects : length old.reads ≡ length required.reads
  pub required_objects : old.objects ≡ required.objects
  pub proposed_subjects : length old.reads ≡ length proposed.reads
  pub proposed_objects : old.objects ≡ proposed.objects

-- each right in the rows is in the others
abbrev pub Among : List ℕ → List ℕ → Type 0
Among rows others = (s k : ℕ) → bit_at rows s k ≡ true → bit_at others s k ≡ true

-- a right in the rows that the others lack
pub record SomeBeyond (rows others : List ℕ) : Type 0 where
  pub subject : ℕ
  pub object : ℕ
  pub there : bit_at rows subject object ≡ true
  pub lacking : bit_at others subject object ≡ false

-- 1: each right of the proposal is one of the old matrix
abbrev pub NoneAdded : Matrix → Matrix → Type 0
NoneAdded old proposed = Among proposed.reads old.reads × Among proposed.writes old.writes

-- or one is new
abbrev pub SomeAdded : Matrix → Matrix → Type 0
SomeAdded old proposed = SomeBeyond proposed.reads old.reads ⊎ SomeBeyond proposed.writes old.writes

-- 2: each right that must stay is one of the proposal
abbrev pub AllKept : Matrix → Matrix → Type 0
AllKept required proposed = Among required.reads proposed.reads × Among required.writes proposed.writes

-- or one is not kept
abbrev pub SomeLost : Matrix → Matrix → Type 0
SomeLost required proposed = SomeBeyond required.reads proposed.reads ⊎ SomeBeyond required.writes proposed.writes

-- 3: each composed flow is granted
abbrev pub AllGranted : List ℕ → List ℕ → ℕ → Type 0
AllGranted reads writes objects = (a b : ℕ) → Composed reads writes objects a b → granted reads writes a b ≡ true

-- or some composed flow is not
pub record SomeUngranted (reads writes : List ℕ) (objects : ℕ) : Type 0 where
  pub source : ℕ
  pub target : ℕ
  pub flow : Composed reads writes objects source target
  pub ungranted : granted reads writes source target ≡ false

-- 4: for each right of the old matrix that the proposal lacks, to read and to write, it is so once this right alone is put back
abbrev pub EachNeeded : Matrix → Matrix → Type 0
EachNeeded old proposed =
    ((s k : ℕ) → bit_at old.reads s k ≡ true → bit_at proposed.reads s k ≡ false → SomeUngranted (with_right proposed.reads s k) proposed.writes proposed.objects)
    × ((s k : ℕ) → bit_at old.writes s k ≡ true → bit_at proposed.writes s k ≡ false → SomeUngranted proposed.reads (with_right proposed.writes s k) proposed.objects)

-- or one of these rights is withdrawn though every composed flow is granted with it
pub record ReadReturns (old proposed : Matrix) : Type 0 where
  pub right : SomeBeyond old.reads proposed.reads
  pub granted : AllGranted (with_right proposed.reads right.subject right.object) proposed.writes proposed.objects

pub record WriteReturns (old proposed : Matrix) : Type 0 where
  pub right : SomeBeyond old.writes proposed.writes
  pub granted : AllGranted proposed.reads (with_right proposed.writes right.subject right.object) proposed.objects

abbrev pub SomeReturns : Matrix → Matrix → Type 0
SomeReturns old proposed = ReadReturns old proposed ⊎ WriteReturns old proposed
