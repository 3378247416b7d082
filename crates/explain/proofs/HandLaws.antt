-- The steps of a chain handed on in parts.
use Prim.Native.Nat.{ℕ, ◌+◌, ◌*◌, ◌-◌, ◌≤◌, ◌<◌}
use native.Mathlib.Omega.{arith}
use mathlib.Core.Path.{◌≡◌, sym, ap, ◌∙◌}
use mathlib.Core.List.{List, ◌++◌}
use lib.ListN.{length, take, drop, length-take, length-drop}
use lib.Seq.{take_all, take-add}
use Rattle.fields.specs.Writing.{Wrote}
use Rattle.listing.specs.Lines.{leading}
use Rattle.listing.specs.Buffer.{field_limit}
use Rattle.listing.proofs.Pieces.{front_again}
use Rattle.explanations.specs.Lines.{step_fields}
use Rattle.explanations.specs.Buffer.{part_limit}
use Rattle.explanations.proofs.ExplanationLines.{no_steps, leading_steps, wrote_front}
use Rattle.files.specs.Calls.{Handed, handed_none, handed_then, handed_as}

-- ---- parts of a list

-- the list up to a place, and the next k of it
pub take_more : (at k : ℕ) (x : List ℕ) → take (at + length (take k (drop at x))) x ≡ take at x ++ take k (drop at x)
take_more at k x =
    take-add at (length (take k (drop at x))) x ∙ ap (λ (l : List ℕ). take at x ++ l) (front_again k (drop at x))

-- all behind a place
pub all_behind : (n at : ℕ) (x : List ℕ) → length x ≡ n → take (n - at) (drop at x) ≡ drop at x
all_behind n at x l = take_all (n - at) (drop at x) (omega (arith, length-drop at x))

-- ---- the loop over the parts

-- the steps of the first numbers are handed on
pub record HandedSteps (numbers : List ℕ) (before after at : ℕ) : Type 0 where
  pub within : at ≤ length numbers
  pub handed : Handed (leading (step_fields (take at numbers))) before after

pub steps_start : (numbers : List ℕ) (a : ℕ) → HandedSteps numbers a a 0
steps_start numbers a = record { within = omega arith; handed = handed_as (sym no_steps) (handed_none a) }

module _ (numbers part : List ℕ) (at : ℕ) (e : part ≡ take part_limit (drop at numbers)) where
  part_length : length part ≡ length (take part_limit (drop at numbers))
  part_length = ap length e

  pub part_few : length part ≤ part_limit
  part_few = omega (arith, part_length, length-take part_limit (drop at numbers))

  pub part_room : 0 + field_limit * length part ≤ 65536
  part_room = omega (arith, part_few)

  pub part_some : at < length numbers → (1 ≤ length part) × (at + length part ≤ length numbers)
  part_some l = (
    omega (arith, part_length, length-take part_limit (drop at numbers), length-drop at numbers),
    omega (arith, part_length, length-take part_limit (drop at numbers), length-drop at numbers),
  )

  part_behind : leading (step_fields (take at numbers)) ++ leading (step_fields part) ≡ leading (step_fields (take (at + length part) numbers))
  part_behind =
      sym (leading_steps (take at numbers) part)
      ∙ ap (λ (x : List ℕ). leading (step_fields x))
      (ap (λ (x : List ℕ). take at numbers ++ x) e ∙ sym (take_more at part_limit numbers) ∙ ap (λ (k : ℕ). take (at + k) numbers) (sym part_length))

  pub steps_next : (out out' : List ℕ) (a b d end : ℕ) → HandedSteps numbers a b at → at < length numbers → Wrote (leading (step_fields part)) out out' 0 end
      → Handed (take end out') b d → HandedSteps numbers a d (at + length part)
  steps_next out out' a b d end h l w x =
      record {
        within = (part_some l).1;
        handed = handed_as part_behind (handed_then h.handed (handed_as (wrote_front w) x));
      }

pub steps_end : (numbers : List ℕ) (a b at : ℕ) → HandedSteps numbers a b at → length numbers ≤ at → Handed (leading (step_fields numbers)) a b
steps_end numbers a b at h l = handed_as (ap (λ (x : List ℕ). leading (step_fields x)) (take_all at numbers l)) h.handed
