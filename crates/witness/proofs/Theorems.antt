-- CHAINS THAT ARE SHOWN: what is proved of explanations, stated in full and proved by citation. The definitions are in specs/ of this crate
-- (the chain that is shown, the history of an explanation, what is told and left) and of crate chains (histories, chains).
use Prim.Native.Nat.{ℕ}
use native.Mathlib.Omega.{arith}
use mathlib.Core.Path.{◌≡◌}
use mathlib.Core.Bool.{true, false}
use mathlib.Core.List.{List, [], ◌∷◌, ◌++◌}
use mathlib.Core.Logic.{◌↔◌, ◌≢◌}
use lib.ListN.{take, drop}
use Rattle.lists.specs.Lists.{elem}
use Rattle.lists.specs.Conditions.{numbers_of, number_at}
use Rattle.lists.proofs.Conditions.{given_exactly, given_among}
use Rattle.answers.specs.Refusals.{image_length, sections, record_count, rule_record, container_record, user_rule, lent_length, explain_bounds}
use Rattle.answers.specs.Answers.{accepted, is_refused}
use Rattle.fields.specs.Bytes.{Bytes}
use Rattle.image.specs.Policy.{Policy}
use Rattle.image.specs.Image.{image_conditions, check_of, policy_in}
use Rattle.image.proofs.Decode.{accepted_sound}
use Rattle.session.specs.Session.{start_of}
use Rattle.chains.specs.History.{History, ◌▸◌}
use Rattle.chains.specs.Chains.{Item, run_rule, Chain, Reaches}
use Rattle.chains.specs.Demand.{history_of}
use Rattle.records.specs.Records.{step_of}
use Rattle.records.specs.Traces.{trace_records}
use Rattle.monitor.specs.Steps.{step_asked, step_answer}
use Rattle.monitor.specs.Runs.{step_on, run_effect}
use Rattle.witness.specs.Witness.{witness}
use Rattle.witness.specs.Told.{told_history, item_of}
use Rattle.witness.specs.Explains.{rule_found, rule_steps, lent_good, asked_good, explain_conditions, explain_refusal, explain_answer, explain_steps, explain_links}
use Rattle.witness.specs.Tells.{Right, First, ChainTold}
use Rattle.witness.proofs.WitnessLaws as chains
use Rattle.witness.proofs.FirstChains.{first_arrival}
use Rattle.witness.proofs.LowLaws.{reaches_item}
use Rattle.witness.proofs.HistoryLaws as histories
use Rattle.witness.proofs.ExplainFacts as facts

-- ---- the chain of the definition

-- The chain that the definition gives is one: it begins in a file where the item starts, and its steps lead to c. Where it gives none
-- there is none. For data atoms, running atoms and run rules, after any history.
pub witness_right : (P : Policy) (h : History) (y : Item) (c : ℕ) → Right P h y c (witness P h y c)
witness_right = chains.right

-- Of all chains for the item into the container it is the first: none arrives earlier.
pub witness_first : (P : Policy) (h : History) (y : Item) (c : ℕ) → First P h y c (witness P h y c)
witness_first = first_arrival

-- ---- the history of an explanation

module _ (s : List ℕ) (rs : List (List ℕ)) (r : List ℕ) where
  -- where the last record is accepted, or refused, it is the paper's history
  pub told_accepted : accepted (step_answer (run_effect s rs) r) ≡ true → told_history s (rs ++ (r ∷ [])) ≡ history_of step_on step_of s (rs ++ (r ∷ []))
  told_accepted = histories.told_accepted s rs r

  pub told_refused : is_refused (step_answer (run_effect s rs) r) ≡ true → told_history s (rs ++ (r ∷ [])) ≡ history_of step_on step_of s (rs ++ (r ∷ []))
  told_refused = histories.told_refused s rs r

  -- where it is not refused, it is the paper's history of the others with the step that the record asks for
  pub told_given : is_refused (step_answer (run_effect s rs) r) ≡ false → told_history s (rs ++ (r ∷ [])) ≡ history_of step_on step_of s rs ▸ step_asked r
  told_given = histories.told_given s rs r

-- ---- what `explain` answers

-- Where it does not refuse: no file exactly if there is no chain for the atom into the container, else a chain that begins in the file,
-- by its records, in rising order, at the end of the steps.
pub explanation_right : (image trace : List ℕ) (c k : ℕ) (links steps : List ℕ) → explain_refusal image trace c k links steps ≡ 0
    → ChainTold (policy_in image) (told_history (start_of (policy_in image)) (trace_records trace)) (start_of (policy_in image)) (trace_records trace) (item_of k) c
    (explain_answer image trace c k links steps).file (drop (explain_answer image trace c k links steps).first (explain_steps image trace c k links steps))
explanation_right = facts.told

-- In front of these numbers the steps are as they were.
pub explanation_front : (image trace : List ℕ) (c k : ℕ) (links steps : List ℕ) → explain_refusal image trace c k links steps ≡ 0
    → take (explain_answer image trace c k links steps).first (explain_steps image trace c k links steps) ≡ take (explain_answer image trace c k links steps).first steps
explanation_front = facts.in_front

-- The item of an atom has a chain exactly if the atom reaches the container, which the answered tag tells of an accepted record
-- (`tag_told` in crate monitor) and of a blocked one (`BlockedTold` in crate chains): so a chain is told for each atom of the tag, and for
-- no other.
pub item_reaches : (image : List ℕ) → Bytes image → check_of image ≡ 0 → (h : History) (k c : ℕ)
    → Reaches (policy_in image) h k c ↔ Chain (policy_in image) h (item_of k) c
item_reaches image bytes ok h k c = reaches_item (policy_in image) (accepted_sound image bytes ok) h k c

-- ---- what `find_rule` answers, on the paper's history

pub rule_right : (image trace rule : List ℕ) (c : ℕ) (steps : List ℕ) → check_of image ≡ 0
    → ChainTold (policy_in image) (history_of step_on step_of (start_of (policy_in image)) (trace_records trace)) (start_of (policy_in image)) (trace_records trace) (run_rule rule) c
    (rule_found image trace rule c steps).file (drop (rule_found image trace rule c steps).first (rule_steps image trace rule c steps))
rule_right = facts.rule_told

-- ---- each refusal has its condition, and is given only under it

module _ (i t : List ℕ) (c k : ℕ) (links steps : List ℕ) where
  pub refused_9 : (explain_refusal i t c k links steps ≡ lent_length) ↔ (lent_good t links steps ≡ false)
  unfolding explain_refusal explain_conditions image_conditions number_at numbers_of
  refused_9 = given_exactly (explain_conditions i t c k links steps) (facts.numbers i t c k links steps) 0 (omega arith)

  -- 1 to 6 exactly where what is lent is long enough and the image is refused so
  pub refused_image : (n : ℕ) → n ≢ 0 → n ≢ lent_length → n ≢ explain_bounds
      → (explain_refusal i t c k links steps ≡ n) ↔ ((lent_good t links steps ≡ true) × (check_of i ≡ n))
  refused_image = facts.image_refused i t c k links steps

  -- 24 exactly where nothing else is refused, and there is no such container or no such atom
  pub refused_24 : (explain_refusal i t c k links steps ≡ explain_bounds) ↔ ((lent_good t links steps ≡ true) × (check_of i ≡ 0) × (asked_good c k ≡ false))
  refused_24 = facts.bounds_refused i t c k links steps

  pub accepted_exactly : (explain_refusal i t c k links steps ≡ 0) ↔ ((lent_good t links steps ≡ true) × (check_of i ≡ 0) × (asked_good c k ≡ true))
  accepted_exactly = facts.none_refused i t c k links steps

  -- no other number is given
  pub refusals_among : elem (explain_refusal i t c k links steps) (0 ∷ lent_length ∷ image_length ∷ sections ∷ record_count ∷ rule_record ∷ container_record ∷ user_rule ∷ explain_bounds ∷ []) ≡ true
  unfolding explain_refusal explain_conditions image_conditions numbers_of
  refusals_among = given_among (explain_conditions i t c k links steps)

  -- in a refusal there are zeros, and everything lent is as it was
  pub explain_refused : explain_refusal i t c k links steps ≢ 0
      → ((explain_answer i t c k links steps).refusal ≡ explain_refusal i t c k links steps) × ((explain_answer i t c k links steps).file ≡ 0) × ((explain_answer i t c k links steps).first ≡ 0)
      × (explain_links i t c k links steps ≡ links) × (explain_steps i t c k links steps ≡ steps)
  explain_refused = facts.refused i t c k links steps
