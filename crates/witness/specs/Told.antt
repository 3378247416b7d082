-- The history of an explanation, the records that are its steps, and what is told of a chain.
use Rattle.std.specs.Prelude.{ℕ, suc, ◌-◌, not, cond, List, [], ◌∷◌, ◌++◌, map, ltb, length, take, drop, get_or}
use Rattle.std.proofs.Math.Option.{Option, none, some}
use Rattle.answers.specs.Answers.{accepted, is_refused}
use Rattle.rules.specs.Answers.{data_width}
use Rattle.image.specs.Limits.{container_limit}
use Rattle.chains.specs.History.{History}
use Rattle.chains.specs.Chains.{Item, data_atom, running_atom}
use Rattle.chains.specs.Demand.{extend, history_of}
use Rattle.records.specs.Records.{step_of}
use Rattle.monitor.specs.Steps.{step_answer, step_effect}
use Rattle.monitor.specs.Runs.{step_on, run_effect}
use Rattle.witness.specs.Found.{Found}
use Rattle.witness.specs.Witness.{Witness, rising}

-- ---- the history

-- the records in front of the last one
unfoldable pub front_of : List (List ℕ) → List (List ℕ)
front_of rs = take (length rs - 1) rs

-- the last one; none of none
unfoldable pub last_of : List (List ℕ) → List (List ℕ)
last_of rs = drop (length rs - 1) rs

-- with one more record, on the session s, unless it is refused
abbrev pub with_last : History → List ℕ → List (List ℕ) → History
with_last h s [] = h
with_last h s (r ∷ rs) = extend h (step_of r) (not (is_refused (step_answer s r)))

-- The accepted records in front of the last one, in order, then the last one unless it is refused: an access that was blocked is
-- explained as if it had been made. Where the last is accepted it is the paper's history.
unfoldable pub told_history : List ℕ → List (List ℕ) → History
told_history s rs = with_last (history_of step_on step_of s (front_of rs)) (run_effect s (front_of rs)) (last_of rs)

-- ---- which records are its steps: a record's number counts all records of the trace from 0, those that are refused too

-- the numbers of the accepted records, counted from n
unfoldable pub numbers_from : ℕ → List ℕ → List (List ℕ) → List ℕ
numbers_from n s [] = []
numbers_from n s (r ∷ rs) =
    cond (accepted (step_answer s r)) (n ∷ numbers_from (suc n) (step_effect s r) rs) (numbers_from (suc n) (step_effect s r) rs)

-- of the steps of the paper's history
unfoldable pub accepted_numbers : List ℕ → List (List ℕ) → List ℕ
accepted_numbers s rs = numbers_from 0 s rs

abbrev pub last_number : ℕ → List ℕ → List (List ℕ) → List ℕ
last_number n s [] = []
last_number n s (r ∷ rs) = cond (is_refused (step_answer s r)) [] (n ∷ [])

-- of the steps of the history of an explanation
unfoldable pub told_numbers : List ℕ → List (List ℕ) → List ℕ
told_numbers s rs = accepted_numbers s (front_of rs) ++ last_number (length rs - 1) (run_effect s (front_of rs)) (last_of rs)

-- ---- what is told of a chain

-- the information that the atom k stands for: "The running twin of atom d is d + 32"
unfoldable pub item_of : ℕ → Item
item_of k = cond (ltb k data_width) (data_atom k) (running_atom (k - data_width))

-- the file where it begins; with no chain, a number that is no container's
unfoldable pub chain_file : Option Witness → ℕ
chain_file none = container_limit
chain_file (some w) = w.file

-- the records of its steps, rising, where ns are the numbers of the history's steps
unfoldable pub chain_records : List ℕ → Option Witness → List ℕ
chain_records ns none = []
chain_records ns (some w) = map (λ i. get_or ns i 0) (rising w.falling)

-- the file, and where the records of the steps stand: at the end of the buffer, from there on
unfoldable pub found_in : List ℕ → Option Witness → List ℕ → Found
found_in ns w steps = record { file = chain_file w; first = length steps - length (chain_records ns w) }

-- the buffer with numbers at its end, what stands in front of them as it was
unfoldable pub at_end : List ℕ → List ℕ → List ℕ
at_end xs steps = take (length steps - length xs) steps ++ xs
