-- A run over a list of records, and over a trace (the paper, "Chains": "each later one finds it as the one before left it").
use Rattle.std.specs.Prelude.{ℕ, List, [], ◌∷◌}
use Rattle.chains.specs.History.{History, start}
use Rattle.answers.specs.declared.Answer.{Answer}
use Rattle.answers.specs.Answers.{accepted}
use Rattle.chains.specs.Demand.{extend, answers, after}
use Rattle.records.specs.Records.{step_of}
use Rattle.monitor.specs.Steps.{step_answer, step_effect}

-- the monitor's operation: the session afterwards, and the answer
unfoldable pub step_on : List ℕ → List ℕ → List ℕ × Answer
step_on s r = (step_effect s r, step_answer s r)

-- the answers to a list of records of any bytes and lengths
unfoldable pub run_answers : List ℕ → List (List ℕ) → List Answer
run_answers s rs = answers step_on s rs

-- the session that they leave
unfoldable pub run_effect : List ℕ → List (List ℕ) → List ℕ
run_effect s rs = after step_on s rs

-- "The history is the accepted steps in order", from the records and their answers: "nothing else is taken from the answers"
unfoldable pub history_behind : History → List (List ℕ) → List Answer → History
history_behind h [] given = h
history_behind h (r ∷ rs) [] = h
history_behind h (r ∷ rs) (a ∷ given) = history_behind (extend h (step_of r) (accepted a)) rs given

unfoldable pub history_in : List (List ℕ) → List Answer → History
history_in rs given = history_behind start rs given
