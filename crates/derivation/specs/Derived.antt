-- The policy derived from a matrix (the paper, "Matrix": "The derived policy, a normal image"), and the answer and effect of writing it.
use Rattle.std.specs.Prelude.{ℕ, ◌^◌, cond, List, [], ◌∷◌, ◌++◌, map, leb, length, replicate}
use Rattle.std.specs.Int.Bits.{bit_or}
use Rattle.image.specs.Limits.{file_kind, process_kind, no_atom, unrestricted_number, no_owner, output_bound}
use Rattle.image.specs.Policy.{Container, Policy}
use Rattle.image.specs.Normal.{normal_image}
use Rattle.normaliser.specs.Normaliser.{length_unless, written_unless}
use Rattle.answers.specs.Refusals.{matrix, lent_length}
use Rattle.lists.specs.Counting.{count_from}
use Rattle.lists.specs.Conditions.{Condition, ◌or_refuse◌, first_failed}
use Rattle.matrix.specs.Flows.{has, matrix_good}

-- ---- the permit rule of an object

-- "for each writer the objects it reads and b": each writer has a mixture of its own
unfoldable pub writer_mixtures : List ℕ → List ℕ → ℕ → List ℕ
writer_mixtures [] writes b = []
writer_mixtures (r ∷ reads) [] b = []
writer_mixtures (r ∷ reads) (w ∷ writes) b =
    cond (has w b) (bit_or r (2 ^ b) ∷ writer_mixtures reads writes b) (writer_mixtures reads writes b)

-- "or just b without writers"
unfoldable pub or_alone : ℕ → List ℕ → List ℕ
or_alone b [] = 2 ^ b ∷ []
or_alone b (m ∷ r) = m ∷ r

unfoldable pub permit_of : List ℕ → List ℕ → ℕ → List ℕ
permit_of reads writes b = or_alone b (writer_mixtures reads writes b)

-- ---- the policy

-- "objects as files with their own atoms .. run rules unrestricted"; the permit rule of object b is rule b
unfoldable pub object_file : ℕ → Container
object_file b = record { kind = file_kind; atom = b; permit = b; run = unrestricted_number }

-- "then subjects as processes"
unfoldable pub subject_process : Container
subject_process = record { kind = process_kind; atom = no_atom; permit = unrestricted_number; run = unrestricted_number }

-- "one unrestricted user"; "Policies derived or read from profiles have no owners" (change request No. 10)
unfoldable pub derived_policy : List ℕ → List ℕ → ℕ → Policy
derived_policy reads writes objects =
    record {
      containers = map object_file (count_from 0 objects) ++ replicate (length reads) subject_process;
      users = unrestricted_number ∷ [];
      rules = map (permit_of reads writes) (count_from 0 objects);
      owners = replicate objects no_owner;
    }

unfoldable pub derived_image : List ℕ → List ℕ → ℕ → List ℕ
derived_image reads writes objects = normal_image (derived_policy reads writes objects)

-- ---- the answer, and the output afterwards

-- "In this order: 9 .. output (of normaliser or derived policy)" that does not "hold 19,506 bytes" (change request No. 10), then "8 matrix"
unfoldable pub derived_conditions : List ℕ → List ℕ → ℕ → List ℕ → List Condition
derived_conditions reads writes objects out = (leb output_bound (length out) or_refuse lent_length) ∷ (matrix_good reads writes objects or_refuse matrix) ∷ []

-- the refusal, 0 if there is none
abbrev pub derived_refusal : List ℕ → List ℕ → ℕ → List ℕ → ℕ
derived_refusal reads writes objects out = first_failed (derived_conditions reads writes objects out)

unfoldable pub derived_answer : List ℕ → List ℕ → ℕ → List ℕ → ℕ
derived_answer reads writes objects out = length_unless (first_failed (derived_conditions reads writes objects out)) (derived_image reads writes objects)

unfoldable pub derived_effect : List ℕ → List ℕ → ℕ → List ℕ → List ℕ
derived_effect reads writes objects out = written_unless (first_failed (derived_conditions reads writes objects out)) (derived_image reads writes objects) out
