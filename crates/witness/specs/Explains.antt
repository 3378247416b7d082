-- How an atom came into a container, and how a run rule did: the answers, what they are refused for, and every lent number afterwards.
use Rattle.std.specs.Prelude.{ℕ, Result, Ok, Err, ◌%◌, Bool, cond, ◌&&◌, List, [], ◌∷◌, ◌++◌, eqb, ltb, leb, length}
use Rattle.std.proofs.Math.Option.{Option}
use Rattle.lists.specs.Conditions.{Condition, ◌or_refuse◌, first_failed}
use Rattle.answers.specs.declared.Refusal.{Refusal}
use Rattle.answers.specs.Outcomes.{refusal_number}
use Rattle.answers.specs.Refusals.{lent_length, explain_bounds}
use Rattle.rules.specs.Answers.{data_width, tag_width}
use Rattle.image.specs.Limits.{container_limit}
use Rattle.image.specs.Image.{policy_in, image_conditions}
use Rattle.session.specs.Session.{start_of}
use Rattle.chains.specs.Chains.{run_rule}
use Rattle.chains.specs.Demand.{history_of}
use Rattle.records.specs.Records.{step_of}
use Rattle.records.specs.Traces.{trace_records}
use Rattle.monitor.specs.Runs.{step_on}
use Rattle.witness.specs.declared.Found as code
use Rattle.witness.specs.Found.{Found, file_number}
use Rattle.witness.specs.Witness.{Witness, witness}
use Rattle.witness.specs.Told.{told_history, accepted_numbers, told_numbers, item_of, chain_records, found_in, at_end}
use Rattle.witness.specs.Links.{node_of, of_atom, of_rule, links_left, told_links}

-- ---- the chain of the run rule r into c, on the paper's history of the trace t from the image i

unfoldable pub rule_witness : List ℕ → List ℕ → List ℕ → ℕ → Option Witness
rule_witness i t r c =
    witness (policy_in i) (history_of step_on step_of (start_of (policy_in i)) (trace_records t)) (run_rule r) c

unfoldable pub rule_numbers : List ℕ → List ℕ → List ℕ
rule_numbers i t = accepted_numbers (start_of (policy_in i)) (trace_records t)

unfoldable pub rule_found : List ℕ → List ℕ → List ℕ → ℕ → List ℕ → Found
rule_found i t r c steps = found_in (rule_numbers i t) (rule_witness i t r c) steps

unfoldable pub rule_steps : List ℕ → List ℕ → List ℕ → ℕ → List ℕ → List ℕ
rule_steps i t r c steps = at_end (chain_records (rule_numbers i t) (rule_witness i t r c)) steps

unfoldable pub rule_links : List ℕ → List ℕ → List ℕ → List ℕ → List ℕ
rule_links i t r links = links_left (policy_in i) (of_rule r) (start_of (policy_in i)) (trace_records t) links

-- ---- the chain of the atom k into c, on the history of an explanation

unfoldable pub atom_witness : List ℕ → List ℕ → ℕ → ℕ → Option Witness
atom_witness i t c k = witness (policy_in i) (told_history (start_of (policy_in i)) (trace_records t)) (item_of k) c

unfoldable pub atom_numbers : List ℕ → List ℕ → List ℕ
atom_numbers i t = told_numbers (start_of (policy_in i)) (trace_records t)

unfoldable pub atom_found : List ℕ → List ℕ → ℕ → ℕ → List ℕ → Found
atom_found i t c k steps = found_in (atom_numbers i t) (atom_witness i t c k) steps

unfoldable pub atom_steps : List ℕ → List ℕ → ℕ → ℕ → List ℕ → List ℕ
atom_steps i t c k steps = at_end (chain_records (atom_numbers i t) (atom_witness i t c k)) steps

-- of the data atom d and its running atom, which are followed together
unfoldable pub atom_links : List ℕ → List ℕ → ℕ → List ℕ → List ℕ
atom_links i t d links = told_links (policy_in i) (of_atom d) (start_of (policy_in i)) (trace_records t) links

-- ---- the explanation

-- 9 unless there are two links for each record behind those of the files, and room for the number of each record
unfoldable pub lent_good : List ℕ → List ℕ → List ℕ → Bool
lent_good t links steps = leb (node_of (length (trace_records t))) (length links) && leb (length (trace_records t)) (length steps)

-- 24 unless there are such a container and such an atom
unfoldable pub asked_good : ℕ → ℕ → Bool
asked_good c k = ltb c container_limit && ltb k tag_width

-- 9, then the image's own refusals, then 24
unfoldable pub explain_conditions : List ℕ → List ℕ → ℕ → ℕ → List ℕ → List ℕ → List Condition
explain_conditions i t c k links steps =
    (lent_good t links steps or_refuse lent_length) ∷ (image_conditions i ++ ((asked_good c k or_refuse explain_bounds) ∷ []))

-- the refusal, 0 if there is none
unfoldable pub explain_refusal : List ℕ → List ℕ → ℕ → ℕ → List ℕ → List ℕ → ℕ
explain_refusal i t c k links steps = first_failed (explain_conditions i t c k links steps)

-- three numbers: the refusal, or 0 and the chain
pub record Explained : Type 0 where
  pub refusal : ℕ
  pub file : ℕ
  pub first : ℕ

-- of an outcome
abbrev pub explained : Result code.Found Refusal → Explained
explained (Ok f) = record { refusal = 0; file = file_number f.file; first = f.first }
explained (Err r) = record { refusal = refusal_number r; file = 0; first = 0 }

-- the refusal with zeros, or the chain
unfoldable pub explain_answer : List ℕ → List ℕ → ℕ → ℕ → List ℕ → List ℕ → Explained
explain_answer i t c k links steps =
    cond (eqb (explain_refusal i t c k links steps) 0)
    (record { refusal = 0; file = (atom_found i t c k steps).file; first = (atom_found i t c k steps).first })
    (record { refusal = explain_refusal i t c k links steps; file = 0; first = 0 })

-- "A refusal .. changes no lent memory"
unfoldable pub explain_steps : List ℕ → List ℕ → ℕ → ℕ → List ℕ → List ℕ → List ℕ
explain_steps i t c k links steps = cond (eqb (explain_refusal i t c k links steps) 0) (atom_steps i t c k steps) steps

unfoldable pub explain_links : List ℕ → List ℕ → ℕ → ℕ → List ℕ → List ℕ → List ℕ
explain_links i t c k links steps = cond (eqb (explain_refusal i t c k links steps) 0) (atom_links i t (k % data_width) links) links
