-- Silent, worked out from the composed flows and the permit rules (change request No. 8), and the answer with its numbers.
use Rattle.std.specs.Prelude.{ℕ, zero, suc, Bool, true, false, List, Result, Ok, Err}
use Rattle.lists.specs.Counting.{all_below}
use Rattle.lists.specs.Conditions.{first_failed}
use Rattle.answers.specs.declared.Refusal.{Refusal}
use Rattle.answers.specs.declared.Refusal.TheVariants as V
use Rattle.answers.specs.Outcomes.{refusal_number}
use Rattle.rules.specs.Rules.{covers}
use Rattle.matrix.specs.Flows.{composed}
use Rattle.matrix.specs.Rows.{bits_of}
use Rattle.matrix.specs.Verdicts.{matrix_conditions}
use Rattle.derivation.specs.Derived.{permit_of}

-- ---- "worked out from the composed flows and the permit rules, without trying sessions"

-- the objects with a composed flow into b, as one tag
unfoldable pub sources_of : List ℕ → List ℕ → ℕ → ℕ → ℕ
sources_of reads writes objects b = bits_of (λ a. composed reads writes objects a b) objects

-- the permit rule of b covers that tag
unfoldable pub quiet_object : List ℕ → List ℕ → ℕ → ℕ → Bool
quiet_object reads writes objects b = covers (permit_of reads writes b) (sources_of reads writes objects b)

-- "a yes or no, silent": each object is so. Theorems, `silent_exactly`, says that no session raises an alert exactly then.
unfoldable pub silent : List ℕ → List ℕ → ℕ → Bool
silent reads writes objects = all_below (quiet_object reads writes objects) objects

-- ---- the answer in numbers: 1 yes, 0 no, 8 a matrix that is refused

-- the number of each case of the answer
abbrev pub silence_number : Result Bool Refusal → ℕ
silence_number (Err refusal) = refusal_number refusal
silence_number (Ok true) = 1
silence_number (Ok false) = 0

-- a matrix that is not refused
unfoldable pub silence_of : List ℕ → List ℕ → ℕ → Result Bool Refusal
silence_of reads writes objects = Ok (silent reads writes objects)

-- a refusal, or the answer
unfoldable pub unless_refused : ℕ → Result Bool Refusal → Result Bool Refusal
unless_refused zero v = v
unless_refused (suc n) v = Err V.Matrix

-- refused as the verdict is
unfoldable pub matrix_silence : List ℕ → List ℕ → ℕ → ℕ
matrix_silence reads writes objects =
    silence_number (unless_refused (first_failed (matrix_conditions reads writes objects)) (silence_of reads writes objects))
