-- The normaliser: its answer, and the output afterwards (the paper, "Normal image" and "Refused because of the input").
use Rattle.std.specs.Prelude.{ℕ, zero, suc, List, ◌∷◌, leb, length, Result, Ok, Err}
use Rattle.lists.specs.Conditions.{Condition, ◌or_refuse◌, first_failed}
use Rattle.answers.specs.Refusals.{lent_length}
use Rattle.answers.specs.declared.Refusal.{Refusal}
use Rattle.answers.specs.Outcomes.{refusal_number}
use Rattle.fields.specs.Writing.{overwritten}
use Rattle.image.specs.Limits.{output_bound}
use Rattle.image.specs.Image.{policy_in, image_conditions}
use Rattle.image.specs.Normal.{normal_image}

-- ---- what is answered where an image is to be written: the refusal, or with none the length of the image

-- an outcome that gives the length, as one number
abbrev pub written_number : Result ℕ Refusal → ℕ
written_number (Ok n) = n
written_number (Err r) = refusal_number r

unfoldable pub length_unless : ℕ → List ℕ → ℕ
length_unless zero s = length s
length_unless (suc n) s = suc n

-- "those behind the image stay"; "A refusal .. changes no lent memory."
unfoldable pub written_unless : ℕ → List ℕ → List ℕ → List ℕ
written_unless zero s out = overwritten s 0 out
written_unless (suc n) s out = out

-- ---- the normaliser

-- "9 .. output (of normaliser or derived policy)" that does not "hold 19,506 bytes" (change request No. 10), then what an image is refused for
unfoldable pub normal_conditions : List ℕ → List ℕ → List Condition
normal_conditions i out = (leb output_bound (length out) or_refuse lent_length) ∷ image_conditions i

-- the refusal, 0 if there is none
abbrev pub normal_refusal : List ℕ → List ℕ → ℕ
normal_refusal i out = first_failed (normal_conditions i out)

-- the refusal, or the length of the normal image
unfoldable pub normal_answer : List ℕ → List ℕ → ℕ
normal_answer i out = length_unless (first_failed (normal_conditions i out)) (normal_image (policy_in i))

unfoldable pub normal_effect : List ℕ → List ℕ → List ℕ
normal_effect i out = written_unless (first_failed (normal_conditions i out)) (normal_image (policy_in i)) out
