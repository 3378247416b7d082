-- The judgement on a proposal to withdraw rights of a matrix (change request No. 7, "Which rights to withdraw").
use Rattle.std.specs.Prelude.{ℕ, ◌^◌, Bool, true, not, cond, ◌&&◌, List, [], ◌∷◌, eqb, length, get_or, set, Result, Ok, Err}
use Rattle.std.specs.Int.Bits.{bit_or}
use Rattle.rules.specs.Sets.{holds}
use Rattle.lists.specs.Counting.{all_below}
use Rattle.lists.specs.Conditions.{Condition, ◌or_refuse◌, first_failed}
use Rattle.answers.specs.declared.Refusal.{Refusal}
use Rattle.answers.specs.declared.Refusal.TheVariants as V
use Rattle.answers.specs.Outcomes.{refusal_number}
use Rattle.matrix.specs.Flows.{Matrix, well_formed}
use Rattle.matrix.specs.Verdicts.{consistent}
use Rattle.matrix.specs.Rows.{bit_at}
use Rattle.withdrawals.specs.declared.Judgement.{Judgement}
use Rattle.withdrawals.specs.declared.Judgement.TheVariants.{Accepted, RightAdded, RightLost, Inconsistent, NotMinimal}

-- ---- the three matrices: "a matrix, the rights that must stay as a second one, and a proposed matrix"

-- not "differing counts", of subjects or of objects
unfoldable pub same_counts : Matrix → Matrix → Bool
same_counts m p = eqb (length m.reads) (length p.reads) && eqb m.objects p.objects

-- "A malformed matrix, or differing counts, is 8."
unfoldable pub comparable : Matrix → Matrix → Matrix → Bool
comparable old required proposed =
    well_formed old && (well_formed required && (well_formed proposed && (same_counts old required && same_counts old proposed)))

-- ---- the four conditions

-- each right in the rows is also in the others
unfoldable pub rows_held : List ℕ → List ℕ → Bool
rows_held others rows = all_below (λ s. holds (get_or others s 0) (get_or rows s 0)) (length rows)

-- 1: "the proposal has no right that the old matrix lacks"
unfoldable pub none_added : Matrix → Matrix → Bool
none_added old proposed = rows_held old.reads proposed.reads && rows_held old.writes proposed.writes

-- 2: "keeps all that must stay"
unfoldable pub all_kept : Matrix → Matrix → Bool
all_kept required proposed = rows_held proposed.reads required.reads && rows_held proposed.writes required.writes

-- 3: "is consistent"
unfoldable pub stays_consistent : Matrix → Bool
stays_consistent proposed = consistent proposed.reads proposed.writes proposed.objects

-- "withdrawn right that the old matrix had"
unfoldable pub withdrawn : List ℕ → List ℕ → ℕ → ℕ → Bool
withdrawn old rows s k = bit_at old s k && not (bit_at rows s k)

-- the rows with the right of subject s to object k "put back alone"
unfoldable pub with_right : List ℕ → ℕ → ℕ → List ℕ
with_right rows s k = set rows s (bit_or (get_or rows s 0) (2 ^ k))

-- "becomes inconsistent if .. put back alone": the right of subject s to read object k, if it was withdrawn
unfoldable pub read_needed : Matrix → Matrix → ℕ → ℕ → Bool
read_needed old proposed s k =
    cond (withdrawn old.reads proposed.reads s k)
    (not (consistent (with_right proposed.reads s k) proposed.writes proposed.objects))
    true

-- the same of the right to write it
unfoldable pub write_needed : Matrix → Matrix → ℕ → ℕ → Bool
write_needed old proposed s k =
    cond (withdrawn old.writes proposed.writes s k)
    (not (consistent proposed.reads (with_right proposed.writes s k) proposed.objects))
    true

-- of each right of subject s
unfoldable pub subject_needed : Matrix → Matrix → ℕ → Bool
subject_needed old proposed s = all_below (λ k. read_needed old proposed s k && write_needed old proposed s k) proposed.objects

-- 4: "becomes inconsistent if any single withdrawn right that the old matrix had is put back alone"
unfoldable pub minimal : Matrix → Matrix → Bool
minimal old proposed = all_below (subject_needed old proposed) (length proposed.reads)

-- ---- the judgement: "Otherwise it gives the first condition that fails, 1 to 4"

-- the number of each case of the answer
abbrev pub judgement_number : Result Judgement Refusal → ℕ
judgement_number (Ok Accepted) = 0
judgement_number (Ok RightAdded) = 1
judgement_number (Ok RightLost) = 2
judgement_number (Ok Inconsistent) = 3
judgement_number (Ok NotMinimal) = 4
judgement_number (Err refusal) = refusal_number refusal

unfoldable pub judgement_conditions : Matrix → Matrix → Matrix → List Condition
judgement_conditions old required proposed =
    (comparable old required proposed or_refuse judgement_number (Err V.Matrix))
    ∷ (none_added old proposed or_refuse judgement_number (Ok RightAdded))
    ∷ (all_kept required proposed or_refuse judgement_number (Ok RightLost))
    ∷ (stays_consistent proposed or_refuse judgement_number (Ok Inconsistent))
    ∷ (minimal old proposed or_refuse judgement_number (Ok NotMinimal))
    ∷ []

-- 0 accepted, the condition, or 8
unfoldable pub judgement_of : Matrix → Matrix → Matrix → ℕ
judgement_of old required proposed = first_failed (judgement_conditions old required proposed)
