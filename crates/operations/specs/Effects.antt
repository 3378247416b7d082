-- What a step is refused for because of the session, and what it answers and leaves (the paper, "Operations" and "Refused because
-- of the session"): the table of operations, on the session's numbers.
use Rattle.std.specs.Prelude.{ℕ, ◌≡◌, Bool, true, cond, ◌&&◌, List, ◌∷◌, eqb, length}
use Rattle.std.proofs.Math.Option.{Option, none, some}
use Rattle.lists.specs.Conditions.{Condition, ◌or_refuse◌, first_failed}
use Rattle.answers.specs.Refusals.{row}
use Rattle.answers.specs.declared.Answer.{Answer}
use Rattle.answers.specs.Answers.{refused}
use Rattle.session.specs.Limits.{session_length}
use Rattle.session.specs.Rows.{row_words, container_row_good, user_row_good, container_row, user_row, put_row}
use Rattle.chains.specs.History.{Step, receiver}
use Rattle.chains.specs.Table.{entry, table_conditions, blocks, verdict}
use Rattle.records.specs.declared.Request.{Request}
use Rattle.records.specs.Records.{Asked}
use Rattle.operations.specs.View.{view}

-- what is known of a session and a request that 9 and 7 do not refuse
pub record Named (s : List ℕ) (q : Request) : Type 0 where
  pub long : length s ≡ session_length
  pub asked : Asked q

-- ---- "Refused because of the session"

-- the row of a user that a step names is as "Session" says
abbrev pub user_named_good : List ℕ → Option ℕ → Bool
user_named_good s none = true
user_named_good s (some u) = user_row_good (user_row s u)

-- 10: "a named row (p, o, and u for 4 and 6) is not as "Session" says"
unfoldable pub rows_good : List ℕ → Step → Bool
rows_good s t =
    container_row_good (container_row s (entry (view s) t).process)
    && (container_row_good (container_row s (entry (view s) t).object) && user_named_good s (entry (view s) t).user)

-- 10, then those of the table
unfoldable pub session_conditions : List ℕ → Step → List Condition
session_conditions s t = (rows_good s t or_refuse row) ∷ table_conditions (view s) t

unfoldable pub session_refusal : List ℕ → Step → ℕ
session_refusal s t = first_failed (session_conditions s t)

-- ---- what a step does

-- the session with the receiver's row of the table; a blocked access "changes nothing"
unfoldable pub made_effect : List ℕ → Step → List ℕ
made_effect s t = cond (blocks t (entry (view s) t).row) s (put_row s (receiver t) (row_words (entry (view s) t).row))

unfoldable pub made_answer : List ℕ → Step → Answer
made_answer s t = verdict t (entry (view s) t).row

unfoldable pub perform_answer : List ℕ → Step → Answer
perform_answer s t = cond (eqb (session_refusal s t) 0) (made_answer s t) (refused (session_refusal s t))

unfoldable pub perform_effect : List ℕ → Step → List ℕ
perform_effect s t = cond (eqb (session_refusal s t) 0) (made_effect s t) s
