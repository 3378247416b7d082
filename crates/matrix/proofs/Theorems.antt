-- What is proved of an access matrix, stated in full. The proofs are in the files that are cited.
use Prim.Native.Nat.{ℕ, ◌≤◌, ◌<◌}
use native.Mathlib.Omega.{arith}
use mathlib.Core.Path.{◌≡◌, refl}
use mathlib.Core.Bool.{Bool, true, false}
use mathlib.Core.List.{List, [], ◌∷◌}
use mathlib.Core.Logic.{◌⊎◌, ◌↔◌}
use lib.ListN.{length, get_or}
use Rattle.lists.specs.Lists.{elem}
use Rattle.lists.specs.Conditions.{Condition, first_failed, numbers_of, number_at, numbers_distinct}
use Rattle.lists.proofs.Conditions.{given_exactly, given_none}
use Rattle.answers.specs.Refusals.{matrix}
use Rattle.matrix.specs.Limits.{subject_limit, object_limit}
use Rattle.matrix.specs.Flows.{has, granted, Composed, composed, matrix_good}
use Rattle.lists.specs.Counting.{count_below, sum_below}
use Rattle.matrix.specs.Verdicts.{flow_count, first_source, first_target, consistent, matrix_conditions, matrix_verdict}
use Rattle.matrix.specs.Rows.{Closed}
use Rattle.matrix.proofs.PathFlows as flows
use Rattle.matrix.proofs.VerdictLoops as verdicts

-- ---- which rows are a matrix: all but those refused by 8

-- as many read rows as write rows, 1 to 8; 1 to 32 objects; no bit beyond them
pub matrix_good_lem : (reads writes : List ℕ) (objects : ℕ) →
    (matrix_good reads writes objects ≡ true)
    ↔ ((length reads ≡ length writes)
    × (1 ≤ length reads)
    × (length reads ≤ subject_limit)
    × (1 ≤ objects)
    × (objects ≤ object_limit)
    × ((s k : ℕ) → objects ≤ k → has (get_or reads s 0) k ≡ false)
    × ((s k : ℕ) → objects ≤ k → has (get_or writes s 0) k ≡ false))
matrix_good_lem = flows.good_exact

-- ---- composed flows

-- the test passes exactly where there is a path of granted flows
pub composed_path : (reads writes : List ℕ) (objects a b : ℕ) → a < objects → b < objects →
    (composed reads writes objects a b ≡ true) ↔ Composed reads writes objects a b
composed_path = flows.composed_path

-- the rows that the code works out (`reach_flows`) grant a flow exactly where there is a path
pub reach_path : (reads writes : List ℕ) (objects : ℕ) (reach : List ℕ) → Closed reads writes objects reach → (a b : ℕ) → a < objects → b < objects →
    (granted reads reach a b ≡ true) ↔ Composed reads writes objects a b
reach_path = flows.reach_path

-- ---- the verdict, of composed flows that are not granted

-- the count is the number of such pairs: what counting gives by any test that passes exactly for them
pub count_exact : (reads writes : List ℕ) (objects : ℕ) (t : ℕ → ℕ → Bool) →
    ((a b : ℕ) → a < objects → b < objects → (t a b ≡ true) ↔ (Composed reads writes objects a b × (granted reads writes a b ≡ false))) →
    flow_count reads writes objects ≡ sum_below (λ a. count_below (t a) objects) objects
count_exact = flows.count_of

-- the pair is one of them
pub pair_flow : (reads writes : List ℕ) (objects : ℕ) → consistent reads writes objects ≡ false →
    Composed reads writes objects (first_source reads writes objects) (first_target reads writes objects)
    × (granted reads writes (first_source reads writes objects) (first_target reads writes objects) ≡ false)
pair_flow = flows.pair_flow

-- and none has a smaller source, or the same source and a smaller target
pub pair_least : (reads writes : List ℕ) (objects : ℕ) → consistent reads writes objects ≡ false → (a b : ℕ) →
    Composed reads writes objects a b × (granted reads writes a b ≡ false) →
    (first_source reads writes objects < a)
    ⊎ ((first_source reads writes objects ≡ a) × (first_target reads writes objects ≤ b))
pair_least = flows.pair_first

-- consistent: each composed flow is granted
pub consistent_granted : (reads writes : List ℕ) (objects : ℕ) →
    (consistent reads writes objects ≡ true)
    ↔ ((a b : ℕ) → Composed reads writes objects a b → granted reads writes a b ≡ true)
consistent_granted = flows.consistent_granted

-- there is a pair exactly when the count is not 0
pub count_consistent : (reads writes : List ℕ) (objects : ℕ) →
    (flow_count reads writes objects ≡ 0) ↔ (consistent reads writes objects ≡ true)
count_consistent = flows.count_consistent

-- ---- each case of the verdict, and no other number

-- 8 exactly if the matrix is malformed
pub verdict_8 : (reads writes : List ℕ) (objects : ℕ) → ((matrix_verdict reads writes objects).number ≡ matrix) ↔ (matrix_good reads writes objects ≡ false)
verdict_8 = verdicts.verdict_8

pub verdict_among : (reads writes : List ℕ) (objects : ℕ) → elem (matrix_verdict reads writes objects).number (0 ∷ 1 ∷ matrix ∷ []) ≡ true
verdict_among = verdicts.verdict_among

-- the conditions by themselves: refused by 8 exactly if malformed, by nothing exactly if not, and by no other number
module _ (reads writes : List ℕ) (objects : ℕ) where
  abbrev cs : List Condition
  cs = matrix_conditions reads writes objects

  pub refused_8 : (first_failed cs ≡ matrix) ↔ (matrix_good reads writes objects ≡ false)
  unfolding matrix_conditions numbers_distinct numbers_of number_at elem
  refused_8 = given_exactly cs refl 0 (omega arith)

  pub refused_none : (first_failed cs ≡ 0) ↔ (matrix_good reads writes objects ≡ true)
  unfolding matrix_conditions numbers_distinct numbers_of elem
  refused_none = given_none cs refl

pub verdict_refused : (reads writes : List ℕ) (objects : ℕ) → matrix_good reads writes objects ≡ false →
    matrix_verdict reads writes objects ≡ record { number = matrix; count = 0; source = 0; target = 0 }
verdict_refused = verdicts.verdict_refused

pub verdict_consistent : (reads writes : List ℕ) (objects : ℕ) → matrix_good reads writes objects ≡ true → consistent reads writes objects ≡ true →
    matrix_verdict reads writes objects ≡ record { number = 0; count = 0; source = 0; target = 0 }
verdict_consistent = verdicts.verdict_consistent

pub verdict_inconsistent : (reads writes : List ℕ) (objects : ℕ) → matrix_good reads writes objects ≡ true → consistent reads writes objects ≡ false →
    matrix_verdict reads writes objects
    ≡ record {
      number = 1;
      count = flow_count reads writes objects;
      source = first_source reads writes objects;
      target = first_target reads writes objects;
    }
verdict_inconsistent = verdicts.verdict_inconsistent
