-- Runs: the sessions that they reach are valid, so that no record is refused for a row; their histories are told by the records
-- and the answers.
use Prim.Native.Nat.{ℕ, zero, suc}
use native.Mathlib.Omega.{arith}
use mathlib.Core.Path.{◌≡◌, refl, ap, ◌∙◌}
use mathlib.Core.Logic.{◌≢◌}
use mathlib.Core.Bool.{Bool, true, false, cond}
use mathlib.Core.List.{List, [], ◌∷◌, ◌++◌}
use mathlib.Core.Option.{none, some}
use lib.ListN.{length, take, get_elem?}
use Rattle.lists.proofs.Bools.{and_in, clash}
use Rattle.session.specs.Rows.{user_row_good, user_row}
use Rattle.chains.specs.History.{History, start}
use Rattle.answers.specs.Answers.{accepted}
use Rattle.chains.specs.Demand.{extend, answers, history_from, history_of}
use Rattle.answers.specs.Refusals.{row}
use Rattle.lists.specs.Conditions.{FailsFirst, numbers_of, number_at}
use Rattle.records.specs.declared.Request.{Request}
use Rattle.records.specs.Codes.{code_at}
use Rattle.records.specs.Records.{request_in, step_in, record_good, step_of, Asked}
use Rattle.records.proofs.CodeLaws.{Entered, entered}
use Rattle.records.proofs.RecordLaws.{asked}
use Rattle.operations.specs.View.{view}
use Rattle.operations.specs.Effects.{user_named_good, rows_good, session_conditions}
use Rattle.operations.proofs.PlacedRows.{Valid}
use Rattle.monitor.specs.Steps.{step_asked, step_conditions, refusal_of, step_effect}
use Rattle.monitor.specs.Runs.{step_on, run_answers, run_effect, history_behind, history_in}
use Rattle.monitor.proofs.StepLaws.{refused_at, faithful}

-- ---- rows

pub valid_run : (s : List ℕ) → Valid s → (rs : List (List ℕ)) → Valid (run_effect s rs)
unfolding run_effect
valid_run s v [] = v
valid_run s v (r ∷ rs) = valid_run (step_on s r).0 (faithful.stays s r v) rs

valid_rows : (s : List ℕ) → Valid s → (q : Request) → Asked q → rows_good s (step_in q) ≡ true
unfolding rows_good
valid_rows s v q a =
    let e : Entered (view s) q = entered (view s) q a in
    rw (e.process, e.object, e.user)
    (and_in (v.rows q.p a.process) (and_in (v.rows q.o a.object) (user_row_lem (code_at q.code).user (λ c. v.users q.u (a.user c)))))
  where
    -- the user row is looked at only if the code names a user
    user_row_lem : (b : Bool) → (b ≡ true → user_row_good (user_row s q.u) ≡ true) → user_named_good s (cond b (some q.u) none) ≡ true
    user_row_lem true h = h refl
    user_row_lem false h = refl

-- the rows that a record names
pub record_rows : (s : List ℕ) → Valid s → (r : List ℕ) → record_good r ≡ true → rows_good s (step_asked r) ≡ true
unfolding step_asked
record_rows s v r g = valid_rows s v (request_in r) (asked r g)

pub never_10 : (s : List ℕ) → Valid s → (r : List ℕ) → refusal_of s r ≢ row
never_10 s v r e = by ((refused_at s r 2 (omega arith)).0 (e ∙ number))
  where
    number : row ≡ number_at (step_conditions s r) 2
    number = unfold number_at numbers_of step_conditions session_conditions in refl

    by : FailsFirst (step_conditions s r) 2 → ⊥
    by = unfold step_conditions session_conditions in (λ h. clash (record_rows s v r h.1.0) h.1.1)

-- ---- histories

pub history_told : (h : History) (s : List ℕ) (rs : List (List ℕ)) → history_from step_on step_of h s rs ≡ history_behind h rs (answers step_on s rs)
unfolding history_behind
history_told h s [] = refl
history_told h s (r ∷ rs) = history_told (extend h (step_of r) (accepted (step_on s r).1)) (step_on s r).0 rs

pub answers_take : (n : ℕ) (s : List ℕ) (rs : List (List ℕ)) → answers step_on s (take n rs) ≡ take n (answers step_on s rs)
answers_take zero s rs = refl
answers_take (suc n) s [] = refl
answers_take (suc n) s (r ∷ rs) = ap (λ l. (step_on s r).1 ∷ l) (answers_take n (step_on s r).0 rs)

-- the history of the first n records, from their bytes and answers
pub history_first : (n : ℕ) (s : List ℕ) (rs : List (List ℕ)) → history_of step_on step_of s (take n rs) ≡ history_in (take n rs) (take n (run_answers s rs))
unfolding history_in run_answers
history_first n s rs = history_told start s (take n rs) ∙ ap (history_behind start (take n rs)) (answers_take n s rs)

-- ---- a run, and a run behind it

pub run_answers_append : (s : List ℕ) (qs rs : List (List ℕ)) → run_answers s (qs ++ rs) ≡ run_answers s qs ++ run_answers (run_effect s qs) rs
unfolding run_answers run_effect
run_answers_append s [] rs = refl
run_answers_append s (q ∷ qs) rs = ap (λ l. (step_on s q).1 ∷ l) (run_answers_append (step_on s q).0 qs rs)

pub run_effect_append : (s : List ℕ) (qs rs : List (List ℕ)) → run_effect s (qs ++ rs) ≡ run_effect (run_effect s qs) rs
unfolding run_effect
run_effect_append s [] rs = refl
run_effect_append s (q ∷ qs) rs = run_effect_append (step_on s q).0 qs rs

-- ---- one more record

pub run_last : (s : List ℕ) (rs : List (List ℕ)) (r : List ℕ) → run_effect s (rs ++ (r ∷ [])) ≡ step_effect (run_effect s rs) r
unfolding run_effect step_on
run_last s rs r = run_effect_append s rs (r ∷ [])

pub answer_last : (s : List ℕ) (rs : List (List ℕ)) (r : List ℕ) → get_elem? (answers step_on s (rs ++ (r ∷ []))) (length rs) ≡ some (step_on (run_effect s rs) r).1
unfolding run_effect
answer_last s [] r = refl
answer_last s (q ∷ rs) r = answer_last (step_on s q).0 rs r

pub record_last : (rs : List (List ℕ)) (r : List ℕ) → get_elem? (rs ++ (r ∷ [])) (length rs) ≡ some r
record_last [] r = refl
record_last (q ∷ rs) r = record_last rs r

pub take_last : (rs : List (List ℕ)) (r : List ℕ) → take (suc (length rs)) (rs ++ (r ∷ [])) ≡ rs ++ (r ∷ [])
take_last [] r = refl
take_last (q ∷ rs) r = ap (λ l. q ∷ l) (take_last rs r)

pub take_before : (rs : List (List ℕ)) (r : List ℕ) → take (length rs) (rs ++ (r ∷ [])) ≡ rs
take_before [] r = refl
take_before (q ∷ rs) r = ap (λ l. q ∷ l) (take_before rs r)
