-- `explanations::put_step`. The number behind that of the record.
use mathlib.Core.Path.{ap}
use mathlib.Core.List.{[], ◌∷◌}
use Prim.Native.Nat.{ℕ}
use Rattle.fields.proofs.WritingLaws.{wrote_as}
use Rattle.listing.specs.Text.{decimal}
use Rattle.listing.specs.Lines.{leading}
use Rattle.explanations.specs.Lines.{step_field}
use Rattle.explanations.proofs.put_step.Goals as goal

pub returns : goal.returns
unfolding step_field
returns c = wrote_as (ap (λ (n : ℕ). leading (decimal n ∷ [])) c.more.ensures) c.put_field.ensures
