-- What a call answers that may refuse its input: the refusal by name, with the number that the paper gives it (Refusals), and 0 where
-- there is none.
use Rattle.std.specs.Prelude.{ℕ, Result, Ok, Err}
use Rattle.answers.specs.declared.Refusal.{Refusal}
use Rattle.answers.specs.declared.Refusal.TheVariants as V
use Rattle.answers.specs.Refusals as number

-- the number of each refusal
abbrev pub refusal_number : Refusal → ℕ
refusal_number V.ImageLength = number.image_length
refusal_number V.Sections = number.sections
refusal_number V.RecordCount = number.record_count
refusal_number V.RuleRecord = number.rule_record
refusal_number V.ContainerRecord = number.container_record
refusal_number V.UserRule = number.user_rule
refusal_number V.OperationRecord = number.operation_record
refusal_number V.Matrix = number.matrix
refusal_number V.LentLength = number.lent_length
refusal_number V.Row = number.row
refusal_number V.NoProcess = number.no_process
refusal_number V.WrongKind = number.wrong_kind
refusal_number V.NotFree = number.not_free
refusal_number V.NotDeclared = number.not_declared
refusal_number V.OverLimit = number.over_limit
refusal_number V.ProfileText = number.profile_text
refusal_number V.ProfileLimit = number.profile_limit
refusal_number V.OtherUser = number.other_user
refusal_number V.TraceLength = number.trace_length
refusal_number V.CompositionInput = number.composition_input
refusal_number V.CompositionLimit = number.composition_limit
refusal_number V.TrimTrace = number.trim_trace
refusal_number V.GameBounds = number.game_bounds
refusal_number V.ExplainBounds = number.explain_bounds
refusal_number V.ExplainTrace = number.explain_trace

-- an outcome as one number: 0, or the refusal's
abbrev pub outcome_number : {A : Type 0} → Result A Refusal → ℕ
outcome_number (Ok a) = 0
outcome_number (Err r) = refusal_number r
