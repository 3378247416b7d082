-- A run that stops: the records of a trace one after the other, up to and with the first that is not answered quiet.
use Rattle.std.specs.Prelude.{ℕ, suc, cond, List, [], ◌∷◌, take}
use Rattle.answers.specs.Refusals.{lent_length}
use Rattle.answers.specs.declared.Answer.{Answer}
use Rattle.answers.specs.Answers.{quiet, refused, is_quiet}
use Rattle.session.specs.Session.{session_length_good}
use Rattle.records.specs.Traces.{trace_records}
use Rattle.monitor.specs.declared.Ran.{Ran}
use Rattle.monitor.specs.Runs.{run_answers, run_effect}

-- the first answer that is not quiet; quiet, with zeros, if there is none
unfoldable pub stop_answer : List Answer → Answer
stop_answer [] = quiet 0 0 0
stop_answer (a ∷ l) = cond (is_quiet a) (stop_answer l) a

-- how many answers there are up to and with it; all if there is none
unfoldable pub stop_count : List Answer → ℕ
stop_count [] = 0
stop_count (a ∷ l) = cond (is_quiet a) (suc (stop_count l)) 1

-- "9 session of wrong length", also if there are no records, and then none is taken
unfoldable pub ran : List ℕ → List ℕ → Ran
ran s t =
    cond (session_length_good s)
    (record { answer = stop_answer (run_answers s (trace_records t)); taken = stop_count (run_answers s (trace_records t)) })
    (record { answer = refused lent_length; taken = 0 })

-- the session that the records leave which are taken
unfoldable pub ran_effect : List ℕ → List ℕ → List ℕ
ran_effect s t = run_effect s (take (ran s t).taken (trace_records t))
