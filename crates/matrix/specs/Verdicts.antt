-- The verdict on a matrix (the paper, "Matrix": "The verdict is consistent, or ..").
use Rattle.std.specs.Prelude.{ℕ, zero, suc, Bool, not, cond, ◌&&◌, List, [], ◌∷◌, Option, None, Some, Result, Ok, Err, IfErr, ◌≡◌}
use Rattle.lists.specs.Counting.{some_below, least_below, count_below, sum_below}
use Rattle.lists.specs.Conditions.{Condition, ◌or_refuse◌, first_failed}
use Rattle.answers.specs.Refusals.{matrix}
use Rattle.matrix.specs.Flows.{matrix_good, granted, composed}
use Rattle.answers.specs.declared.Refusal.{Refusal}
use Rattle.answers.specs.declared.Refusal.TheVariants as V
use Rattle.answers.specs.Outcomes.{refusal_number}
use Rattle.matrix.specs.declared.Inconsistency.{Inconsistency}

-- ---- "composed flows not granted"

unfoldable pub ungranted : List ℕ → List ℕ → ℕ → ℕ → ℕ → Bool
ungranted reads writes objects a b = composed reads writes objects a b && not (granted reads writes a b)

-- there is one from a
unfoldable pub ungranted_from : List ℕ → List ℕ → ℕ → ℕ → Bool
ungranted_from reads writes objects a = some_below (ungranted reads writes objects a) objects

-- "the count of set bits for composed flows not granted"
unfoldable pub flow_count : List ℕ → List ℕ → ℕ → ℕ
flow_count reads writes objects = sum_below (λ a. count_below (ungranted reads writes objects a) objects) objects

-- "the smallest source"
unfoldable pub first_source : List ℕ → List ℕ → ℕ → ℕ
first_source reads writes objects = least_below (ungranted_from reads writes objects) objects

-- "then the smallest target"
unfoldable pub first_target : List ℕ → List ℕ → ℕ → ℕ
first_target reads writes objects =
    least_below (ungranted reads writes objects (first_source reads writes objects)) objects

-- each composed flow is granted
unfoldable pub consistent : List ℕ → List ℕ → ℕ → Bool
consistent reads writes objects = not (some_below (ungranted_from reads writes objects) objects)

-- the count and the pair of the verdict
abbrev pub inconsistent : ℕ → ℕ → ℕ → Option Inconsistency
inconsistent count source target = Some (record { count = count; source = source; target = target })

-- a matrix that is not refused: "consistent, or the count .. and the pair"
unfoldable pub judged_by : ℕ → List ℕ → List ℕ → ℕ → Option Inconsistency
judged_by count reads writes objects =
    cond (consistent reads writes objects)
    None
    (inconsistent count (first_source reads writes objects) (first_target reads writes objects))

-- ---- the verdict in numbers: 0 consistent, 1 not, or the refusal; then count, source and target

pub record ConsistencyValues : Type 0 where
  pub number : ℕ
  pub count : ℕ
  pub source : ℕ
  pub target : ℕ

-- the numbers of each case of the answer; "A refusal returns its number, zeros elsewhere"
abbrev pub consistency_values : Result (Option Inconsistency) Refusal → ConsistencyValues
consistency_values (Err refusal) = record { number = refusal_number refusal; count = 0; source = 0; target = 0 }
consistency_values (Ok None) = record { number = 0; count = 0; source = 0; target = 0 }
consistency_values (Ok (Some i)) = record { number = 1; count = i.count; source = i.source; target = i.target }

-- an answer that is an error only by a malformed matrix
abbrev pub MatrixAlone : {A : Type 0} → Result A Refusal → Type 0
MatrixAlone answer = IfErr answer (λ refusal. refusal ≡ V.Matrix)

-- what a matrix is refused for
unfoldable pub matrix_conditions : List ℕ → List ℕ → ℕ → List Condition
matrix_conditions reads writes objects = (matrix_good reads writes objects or_refuse matrix) ∷ []

-- a refusal, or the verdict
unfoldable pub unless_refused : ℕ → Option Inconsistency → Result (Option Inconsistency) Refusal
unless_refused zero v = Ok v
unless_refused (suc n) v = Err V.Matrix

unfoldable pub matrix_verdict : List ℕ → List ℕ → ℕ → ConsistencyValues
matrix_verdict reads writes objects =
    consistency_values
    (unless_refused (first_failed (matrix_conditions reads writes objects)) (judged_by (flow_count reads writes objects) reads writes objects))
