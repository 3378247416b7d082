-- What is proved of the derived policy, stated in full. The proofs are in the files that are cited.
use Prim.Native.Nat.{ℕ, ◌≤◌, ◌<◌}
use mathlib.Core.Path.{◌≡◌, refl, sym, ◌∙◌}
use mathlib.Core.Logic.{◌↔◌}
use native.Mathlib.Decide.{ℕ_discrete}
use native.Mathlib.Omega.{arith}
use lib.Dec.{eqb, leb}
use mathlib.Core.Bool.{true, false}
use mathlib.Core.List.{List, [], ◌∷◌, ◌++◌, map}
use lib.ListN.{length, take, replicate}
use Rattle.rules.specs.Rules.{normal}
use Rattle.image.specs.Limits.{file_kind, process_kind, no_atom, no_owner, header_size, output_bound}
use Rattle.image.specs.Policy.{unrestricted_rule, Sound}
use Rattle.image.specs.Image.{policy_in, check_of}
use Rattle.image.specs.Normal.{meaning, owners_at, normal_policy, normal_image}
use Rattle.lists.specs.Lists.{elem, every}
use Rattle.lists.specs.Conditions.{Condition, first_failed, numbers_of, number_at, numbers_distinct}
use Rattle.lists.proofs.Conditions.{given_exactly, given_none, given_among}
use Rattle.answers.specs.Refusals.{matrix, lent_length}
use Rattle.normaliser.proofs.WrittenAnswers.{through, refused_answer, answer_number, answer_front}
use Rattle.matrix.specs.Flows.{matrix_good}
use Rattle.matrix.proofs.GoodLaws.{good_parts}
use Rattle.lists.specs.Counting.{count_from}
use Rattle.derivation.specs.Derived.{permit_of, derived_policy, derived_image, derived_conditions, derived_answer, derived_effect}
use Rattle.derivation.proofs.DerivedLaws as derived

-- ---- the answer

module _ (reads writes : List ℕ) (objects : ℕ) (out : List ℕ) where
  abbrev cs : List Condition
  cs = derived_conditions reads writes objects out

  derive_number : (k : ℕ) → 0 < k → k < header_size → (derived_answer reads writes objects out ≡ k) ↔ (first_failed cs ≡ k)
  unfolding derived_answer
  derive_number k p l = by (ℕ_discrete (first_failed cs) 0)
    where
      by : Dec (first_failed cs ≡ 0) → (derived_answer reads writes objects out ≡ k) ↔ (first_failed cs ≡ k)
      by (yes z) = answer_number (derived_image reads writes objects) (derived.derived_long reads writes objects (good_parts reads writes objects (accepted z))) (first_failed cs) k p l
        where
          accepted : first_failed cs ≡ 0 → matrix_good reads writes objects ≡ true
          accepted e = unfold derived_conditions numbers_distinct numbers_of elem in ((given_none cs refl).0 e).1
      by (no d) =
          let e = refused_answer (first_failed cs) (derived_image reads writes objects) out d in
          ((λ h. sym e ∙ h), (λ h. e ∙ h))

  -- 9 exactly if the output is too short
  pub derive_9 : (derived_answer reads writes objects out ≡ lent_length) ↔ (leb output_bound (length out) ≡ false)
  unfolding derived_conditions numbers_distinct numbers_of number_at elem
  derive_9 = through (derive_number lent_length (omega arith) (omega arith)) (given_exactly cs refl 0 (omega arith))

  -- 8 exactly if it is not, and the matrix is malformed
  pub derive_8 : (derived_answer reads writes objects out ≡ matrix) ↔ ((leb output_bound (length out) ≡ true) × (matrix_good reads writes objects ≡ false))
  unfolding derived_conditions numbers_distinct numbers_of number_at elem
  derive_8 = through (derive_number matrix (omega arith) (omega arith)) (given_exactly cs refl 1 (omega arith))

  -- nothing is refused exactly if the output is long enough and the matrix is well formed; no other number is given
  pub derive_accepted : (first_failed cs ≡ 0) ↔ ((leb output_bound (length out) ≡ true) × (matrix_good reads writes objects ≡ true))
  unfolding derived_conditions numbers_distinct numbers_of elem
  derive_accepted = given_none cs refl

  pub derive_among : elem (first_failed cs) (0 ∷ lent_length ∷ matrix ∷ []) ≡ true
  unfolding derived_conditions numbers_of
  derive_among = given_among cs

  -- what it then leaves at the front of the output is the image
  pub derive_written : first_failed cs ≡ 0 → take (derived_answer reads writes objects out) (derived_effect reads writes objects out) ≡ derived_image reads writes objects
  unfolding derived_answer derived_effect
  derive_written e = answer_front (first_failed cs) (derived_image reads writes objects) out e

-- ---- the policy

module _ (reads writes : List ℕ) (objects : ℕ) (good : matrix_good reads writes objects ≡ true) where
  -- an image can spell it
  pub derived_sound : Sound (derived_policy reads writes objects)
  derived_sound = derived.derived_sound reads writes objects (good_parts reads writes objects good)

  -- its normal image is accepted, and decodes to the policy in normal form
  pub derived_read : (check_of (derived_image reads writes objects) ≡ 0) × (policy_in (derived_image reads writes objects) ≡ normal_policy (derived_policy reads writes objects))
  derived_read = derived.derived_read reads writes objects (good_parts reads writes objects good)

  -- which means what was stated: files with their atoms and permit rules, then processes; one unrestricted user
  pub derived_means : meaning (normal_policy (derived_policy reads writes objects))
      ≡ record {
        places =
            map (λ b. record { kind = file_kind; atom = b; permit = normal (permit_of reads writes b); run = unrestricted_rule }) (count_from 0 objects)
            ++ replicate (length reads) (record { kind = process_kind; atom = no_atom; permit = unrestricted_rule; run = unrestricted_rule });
        users = unrestricted_rule ∷ [];
      }
  derived_means = derived.derived_means reads writes objects (good_parts reads writes objects good)

  -- "Policies derived .. have no owners" (change request No. 10): no rule of the image has one, so there is none at any use
  pub derived_unowned : every (eqb no_owner) (policy_in (derived_image reads writes objects)).owners ≡ true
  derived_unowned = derived.derived_unowned reads writes objects (good_parts reads writes objects good)

  pub derived_owners : every (eqb no_owner) (owners_at (policy_in (derived_image reads writes objects))) ≡ true
  derived_owners = derived.derived_owners reads writes objects (good_parts reads writes objects good)

  -- it is its own normal image
  pub derived_normal : normal_image (normal_policy (derived_policy reads writes objects)) ≡ derived_image reads writes objects
  derived_normal = derived.derived_normal reads writes objects (good_parts reads writes objects good)

  -- the output holds it
  pub derived_short : length (derived_image reads writes objects) ≤ output_bound
  derived_short = derived.derived_short reads writes objects (good_parts reads writes objects good)

  -- no object is unrestricted: a permit rule speaks of data atoms only
  pub derived_restricted : (b : ℕ) → b < objects → normal (permit_of reads writes b) ≡ unrestricted_rule → ⊥
  derived_restricted b l e = derived.derived_restricted reads writes objects (good_parts reads writes objects good) b l e
