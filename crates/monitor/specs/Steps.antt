-- One step of the monitor on the session's numbers and the record's bytes: the answer, and every number afterwards.
use Rattle.std.specs.Prelude.{ℕ, cond, List, ◌∷◌, eqb}
use Rattle.lists.specs.Conditions.{Condition, ◌or_refuse◌, first_failed}
use Rattle.answers.specs.Refusals.{operation_record, lent_length}
use Rattle.answers.specs.declared.Answer.{Answer}
use Rattle.answers.specs.Answers.{refused}
use Rattle.session.specs.Session.{session_length_good}
use Rattle.chains.specs.History.{Step}
use Rattle.records.specs.Records.{request_in, step_in, record_good}
use Rattle.operations.specs.Effects.{session_conditions, made_answer, made_effect}

-- the step that the bytes of a record ask for
unfoldable pub step_asked : List ℕ → Step
step_asked r = step_in (request_in r)

-- 9, then 7, then those because of the session: 10 to 14, 18, 15
unfoldable pub step_conditions : List ℕ → List ℕ → List Condition
step_conditions s r =
    (session_length_good s or_refuse lent_length) ∷ (record_good r or_refuse operation_record) ∷ session_conditions s (step_asked r)

-- the refusal, 0 if there is none
unfoldable pub refusal_of : List ℕ → List ℕ → ℕ
refusal_of s r = first_failed (step_conditions s r)

-- "A refusal returns its number, zeros elsewhere, and changes no lent memory."
unfoldable pub step_answer : List ℕ → List ℕ → Answer
step_answer s r = cond (eqb (refusal_of s r) 0) (made_answer s (step_asked r)) (refused (refusal_of s r))

unfoldable pub step_effect : List ℕ → List ℕ → List ℕ
step_effect s r = cond (eqb (refusal_of s r) 0) (made_effect s (step_asked r)) s
