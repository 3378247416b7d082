-- What a caller knows of an outcome's number once it has looked at the outcome: 0 is the number of no refusal.
use Rattle.std.proofs.Common.{◌≡◌, ◌<◌, ℕ, Result, Ok, Err, sym, ◌∙◌, ap, arith}
use Rattle.answers.specs.declared.Refusal.{Refusal}
use Rattle.answers.specs.declared.Refusal.TheVariants as V
use Rattle.answers.specs.Outcomes.{refusal_number, outcome_number}

-- an outcome that is Ok has the number 0
pub accepted : {A : Type 0} {r : Result A Refusal} {a : A} {n : ℕ} → outcome_number r ≡ n → r ≡ Ok a → n ≡ 0
accepted e was = sym e ∙ ap outcome_number was

-- one that is an error has the refusal's number
pub refused_by : {A : Type 0} {r : Result A Refusal} {f : Refusal} {n : ℕ} → outcome_number r ≡ n → r ≡ Err f → n ≡ refusal_number f
refused_by e was = sym e ∙ ap outcome_number was

-- no refusal has the number 0
pub refusal_number_positive : (f : Refusal) → 0 < refusal_number f
refusal_number_positive V.ImageLength = omega arith
refusal_number_positive V.Sections = omega arith
refusal_number_positive V.RecordCount = omega arith
refusal_number_positive V.RuleRecord = omega arith
refusal_number_positive V.ContainerRecord = omega arith
refusal_number_positive V.UserRule = omega arith
refusal_number_positive V.OperationRecord = omega arith
refusal_number_positive V.Matrix = omega arith
refusal_number_positive V.LentLength = omega arith
refusal_number_positive V.Row = omega arith
refusal_number_positive V.NoProcess = omega arith
refusal_number_positive V.WrongKind = omega arith
refusal_number_positive V.NotFree = omega arith
refusal_number_positive V.NotDeclared = omega arith
refusal_number_positive V.OverLimit = omega arith
refusal_number_positive V.ProfileText = omega arith
refusal_number_positive V.ProfileLimit = omega arith
refusal_number_positive V.OtherUser = omega arith
refusal_number_positive V.TraceLength = omega arith
refusal_number_positive V.CompositionInput = omega arith
refusal_number_positive V.CompositionLimit = omega arith
refusal_number_positive V.TrimTrace = omega arith
refusal_number_positive V.GameBounds = omega arith
refusal_number_positive V.ExplainBounds = omega arith
refusal_number_positive V.ExplainTrace = omega arith

-- so an error's number is not 0
pub not_accepted : {A : Type 0} {r : Result A Refusal} {f : Refusal} {n : ℕ} → outcome_number r ≡ n → r ≡ Err f → n ≡ 0 → ⊥
not_accepted {f = f} e was z = omega (arith, refusal_number_positive f, refused_by e was, z)
