-- What is left in the lent links. A node is a number: 0 for no chain, f + 1 for the one that has no step yet and stands in file f, and
-- two for each record, one for what it put down as a data atom or a run rule, and one for what it put down as a running atom. The link
-- of a node is the node of the chain that was taken up.
use Rattle.std.specs.Prelude.{ℕ, suc, ◌+◌, ◌*◌, ◌-◌, cond, List, [], ◌∷◌, length, get_or, set}
use Rattle.std.proofs.Math.Option.{Option, none, some}
use Rattle.answers.specs.Answers.{accepted, is_refused}
use Rattle.image.specs.Limits.{container_limit}
use Rattle.image.specs.Policy.{Policy}
use Rattle.chains.specs.History.{Step, History, start}
use Rattle.chains.specs.Chains.{Item, data_atom, running_atom, run_rule}
use Rattle.chains.specs.Demand.{extend, history_of}
use Rattle.records.specs.Records.{step_of}
use Rattle.monitor.specs.Steps.{step_asked, step_answer, step_effect}
use Rattle.monitor.specs.Runs.{step_on, run_effect}
use Rattle.witness.specs.Witness.{Source, takes_up, Witness, witness}
use Rattle.witness.specs.Told.{front_of, last_of, accepted_numbers, told_numbers}

-- ---- nodes

-- the first of the first record
abbrev pub first_node : ℕ
first_node = container_limit + 2

-- of record number n, for a data atom or a run rule; the next is for a running atom. It is also how many links n records need.
abbrev pub node_of : ℕ → ℕ
node_of n = first_node + 2 * n

abbrev pub form_of : Item → ℕ
form_of (data_atom d) = 0
form_of (running_atom d) = 1
form_of (run_rule r) = 0

abbrev pub node_after : List ℕ → Item → ℕ → List ℕ → ℕ
node_after ns y f [] = suc f
node_after ns y f (i ∷ is) = node_of (get_or ns i 0) + form_of y

-- of a chain for y, where ns are the record numbers of the history's steps
abbrev pub chain_node : List ℕ → Item → Option Witness → ℕ
chain_node ns y none = 0
chain_node ns y (some w) = node_after ns y w.file w.falling

-- ---- one record

-- the chains that are followed together: those of the data atom d and of its running atom, or those of the run rule r
pub data Family : Type 0 where
  of_atom : (d : ℕ) → Family
  of_rule : (r : List ℕ) → Family

abbrev pub main_item : Family → Item
main_item (of_atom d) = data_atom d
main_item (of_rule r) = run_rule r

module _ (P : Policy) (ns : List ℕ) where
  -- the node of the chain that is taken up, after the history h
  abbrev pub taken_link : History → Option Source → ℕ
  taken_link h none = 0
  taken_link h (some t) = chain_node ns t.item (witness P h t.item t.at)

  abbrev pub main_link : Family → History → Step → ℕ
  main_link F h s = taken_link h (takes_up s (main_item F))

  abbrev pub running_link : Family → History → Step → ℕ
  running_link (of_atom d) h s = taken_link h (takes_up s (running_atom d))
  running_link (of_rule r) h s = 0

  -- record number n, which asks for the step s, after the history h
  unfoldable pub links_at : Family → History → ℕ → Step → List ℕ → List ℕ
  links_at F h n s links = set (set links (node_of n) (main_link F h s)) (node_of n + 1) (running_link F h s)

  -- ---- a list of records

  -- the accepted records, from number n on
  unfoldable pub links_from : Family → History → ℕ → List ℕ → List (List ℕ) → List ℕ → List ℕ
  links_from F h n s [] links = links
  links_from F h n s (r ∷ rs) links =
      links_from F (extend h (step_of r) (accepted (step_answer s r))) (suc n) (step_effect s r) rs
      (cond (accepted (step_answer s r)) (links_at F h n (step_asked r) links) links)

  -- one more, unless it is refused
  abbrev pub links_last : Family → History → ℕ → List ℕ → List (List ℕ) → List ℕ → List ℕ
  links_last F h n s [] links = links
  links_last F h n s (r ∷ rs) links = cond (is_refused (step_answer s r)) links (links_at F h n (step_asked r) links)

-- those of the paper's history of the records rs on the session s
unfoldable pub links_left : Policy → Family → List ℕ → List (List ℕ) → List ℕ → List ℕ
links_left P F s rs links = links_from P (accepted_numbers s rs) F start 0 s rs links

-- those of the history of an explanation
unfoldable pub told_links : Policy → Family → List ℕ → List (List ℕ) → List ℕ → List ℕ
told_links P F s rs links =
    links_last P (told_numbers s rs) F (history_of step_on step_of s (front_of rs)) (length rs - 1) (run_effect s (front_of rs)) (last_of rs)
    (links_from P (told_numbers s rs) F start 0 s (front_of rs) links)
