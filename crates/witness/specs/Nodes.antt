-- How it is worked out: private contracts. A table holds the node of each container's chain: for the data atom or the run rule, and
-- behind these for the running atom, which a rule does not have.
use Rattle.std.specs.Prelude.{ℕ, suc, ◌+◌, ◌*◌, ◌-◌, ◌/◌, ◌≤◌, ◌<◌, ◌≡◌, Bool, true, false, not, cond, List, [], ◌∷◌, eqb, length, get_or, set}
use Rattle.std.proofs.Math.Option.{Option, none, some}
use Rattle.std.proofs.Math.ListN.{get_elem?}
use Rattle.answers.specs.declared.Answer.{Answer}
use Rattle.answers.specs.Answers.{accepted, is_refused}
use Rattle.rules.specs.Answers.{data_width}
use Rattle.image.specs.Limits.{container_limit}
use Rattle.image.specs.Policy.{Container, Policy}
use Rattle.image.specs.Image.{policy_in}
use Rattle.session.specs.Session.{start_of}
use Rattle.chains.specs.History.{Step, History, receiver}
use Rattle.chains.specs.Chains.{Item, data_atom, running_atom, run_rule}
use Rattle.chains.specs.Demand.{history_of}
use Rattle.records.specs.Records.{step_of}
use Rattle.records.specs.Traces.{trace_records}
use Rattle.monitor.specs.Steps.{step_asked, step_answer, step_effect}
use Rattle.monitor.specs.Runs.{step_on}
use Rattle.witness.specs.Found.{Found}
use Rattle.witness.specs.declared.Followed.{Followed}
use Rattle.witness.specs.declared.Followed.TheVariants as V
use Rattle.witness.specs.Witness.{Source, takes_up, ends_item, starts_in, Witness, witness}
use Rattle.witness.specs.Told.{told_history, chain_records, found_in, at_end}
use Rattle.witness.specs.Explains.{rule_numbers, rule_links, atom_numbers, atom_links}
use Rattle.witness.specs.Links.{first_node, node_of, chain_node, Family, of_atom, of_rule, main_item}

-- ---- the table

abbrev pub held_length : ℕ
held_length = 2 * container_limit

-- where the node of the chain for an item into c stands
abbrev pub place_of : Item → ℕ → ℕ
place_of (data_atom d) c = c
place_of (running_atom d) c = container_limit + c
place_of (run_rule r) c = c

-- the chains that are followed for what the code is given
abbrev pub family_of : Followed → Family
family_of (V.Atom d) = of_atom d
family_of (V.Rule r) = of_rule r.now

-- a data atom, or any rule
abbrev pub Followable : Followed → Type 0
Followable (V.Atom d) = d < data_width
Followable (V.Rule r) = Unit {0}

abbrev pub is_rule : Family → Bool
is_rule (of_atom d) = false
is_rule (of_rule r) = true

-- what a step takes up and ends is the same for all atoms, and for all rules
abbrev pub any_main : Bool → Item
any_main false = data_atom 0
any_main true = run_rule []

-- ---- one step

-- the node that stands for what the step takes up
abbrev pub source_node : List ℕ → Option Source → ℕ
source_node held none = 0
source_node held (some t) = get_or held (place_of t.item t.at) 0

unfoldable pub main_source : Bool → List ℕ → Step → ℕ
main_source b held s = source_node held (takes_up s (any_main b))

unfoldable pub running_source : Bool → List ℕ → Step → ℕ
running_source b held s = cond b 0 (source_node held (takes_up s (running_atom 0)))

unfoldable pub taken_node : ℕ → ℕ → ℕ
taken_node from node = cond (eqb from 0) 0 node

-- the receiver's node: its own if it has one that is not ended, else the new one if something is taken up
unfoldable pub next_node : ℕ → ℕ → Bool → ℕ → ℕ
next_node own from ends node = cond ends (taken_node from node) (cond (eqb own 0) (taken_node from node) own)

unfoldable pub ends_main : Bool → Step → Bool
ends_main b s = ends_item s (any_main b)

unfoldable pub ends_running : Step → Bool
ends_running s = ends_item s (running_atom 0)

-- the table after record number n, which asks for the step s
unfoldable pub held_after : Bool → List ℕ → ℕ → Step → List ℕ
held_after b held n s =
    set
    (set held (receiver s) (next_node (get_or held (receiver s) 0) (main_source b held s) (ends_main b s) (node_of n)))
    (container_limit + receiver s)
    (next_node (get_or held (container_limit + receiver s) 0) (running_source b held s) (ends_running s) (node_of n + 1))

unfoldable pub links_after : Bool → List ℕ → List ℕ → ℕ → Step → List ℕ
links_after b held links n s = set (set links (node_of n) (main_source b held s)) (node_of n + 1) (running_source b held s)

-- ---- records

-- the record is a step of the history: it is accepted or, as the last of an explanation, not refused
unfoldable pub is_step : Bool → Answer → Bool
is_step told a = cond told (not (is_refused a)) (accepted a)

-- the table, and the links
pub record Tracks : Type 0 where
  pub held : List ℕ
  pub links : List ℕ

abbrev pub tracks : List ℕ → List ℕ → Tracks
tracks held links = record { held = held; links = links }

-- after record number n
unfoldable pub tracks_on : Bool → Bool → Tracks → ℕ → List ℕ → List ℕ → Tracks
tracks_on b told t n s r =
    cond (is_step told (step_answer s r))
    (tracks (held_after b t.held n (step_asked r)) (links_after b t.held t.links n (step_asked r)))
    t

abbrev pub is_none : List (List ℕ) → Bool
is_none [] = true
is_none (r ∷ rs) = false

-- the record in front of these is the last of an explanation
unfoldable pub is_last : Bool → List (List ℕ) → Bool
is_last told rs = cond told (is_none rs) false

-- after the records from number n on, those of an explanation if it is told
unfoldable pub tracks_all : Bool → Bool → Tracks → ℕ → List ℕ → List (List ℕ) → Tracks
tracks_all b told t n s [] = t
tracks_all b told t n s (r ∷ rs) = tracks_all b told (tracks_on b (is_last told rs) t n s r) (suc n) (step_effect s r) rs

-- ---- what a node stands for

module _ (ns links : List ℕ) where
  -- the node v leads back by these steps, the last one first, to the file f; ns are the record numbers of the history's steps
  abbrev pub LeadsBack : ℕ → ℕ → List ℕ → Type 0
  LeadsBack f v [] = (v ≡ suc f) × (f < container_limit)
  LeadsBack f v (i ∷ is) =
      (first_node ≤ v) × ((v - first_node) / 2 ≡ get_or ns i 0) × (get_or links v 0 < node_of (get_or ns i 0)) × LeadsBack f (get_or links v 0) is

  abbrev pub Stored : ℕ → Option Witness → Type 0
  Stored v none = v ≡ 0
  Stored v (some w) = LeadsBack w.file v w.falling

-- an item of the family
abbrev pub OfFamily : Family → Item → Type 0
OfFamily (of_atom d) (data_atom e) = e ≡ d
OfFamily (of_atom d) (running_atom e) = e ≡ d
OfFamily (of_atom d) (run_rule q) = ⊥
OfFamily (of_rule r) (data_atom e) = ⊥
OfFamily (of_rule r) (running_atom e) = ⊥
OfFamily (of_rule r) (run_rule q) = q ≡ r

-- after the history h, of n records: the table holds the nodes of the chains, and the links lead back along them
pub record Tracked (P : Policy) (F : Family) (ns : List ℕ) (h : History) (n : ℕ) (held links : List ℕ) : Type 0 where
  pub long : length held ≡ held_length
  pub low : (k : ℕ) → get_or held k 0 < node_of n
  pub named : (y : Item) → OfFamily F y → (c : ℕ) → c < container_limit → get_or held (place_of y c) 0 ≡ chain_node ns y (witness P h y c)
  pub shown : (y : Item) → OfFamily F y → (c : ℕ) → c < container_limit → Stored ns links (get_or held (place_of y c) 0) (witness P h y c)

-- after the accepted records of a trace from an image
abbrev pub RuleFollowed : List ℕ → List ℕ → List ℕ → List ℕ → List ℕ → Type 0
RuleFollowed i t r held links =
    Tracked (policy_in i) (of_rule r) (rule_numbers i t) (history_of step_on step_of (start_of (policy_in i)) (trace_records t)) (length (trace_records t)) held links

-- after the records of an explanation
abbrev pub AtomFollowed : List ℕ → List ℕ → ℕ → List ℕ → List ℕ → Type 0
AtomFollowed i t d held links =
    Tracked (policy_in i) (of_atom d) (atom_numbers i t) (told_history (start_of (policy_in i)) (trace_records t)) (length (trace_records t)) held links

-- of the family
abbrev pub FamilyFollowed : List ℕ → List ℕ → Family → List ℕ → List ℕ → Type 0
FamilyFollowed i t (of_atom d) held links = AtomFollowed i t d held links
FamilyFollowed i t (of_rule r) held links = RuleFollowed i t r held links

abbrev pub family_links : List ℕ → List ℕ → Family → List ℕ → List ℕ
family_links i t (of_atom d) links = atom_links i t d links
family_links i t (of_rule r) links = rule_links i t r links

-- ---- the start

abbrev pub start_node : List (List ℕ) → Item → Option Container → ℕ → ℕ
start_node rules y m c = cond (starts_in rules y m) (suc c) 0

-- the table at the start
pub record Begun (containers : List Container) (rules : List (List ℕ)) (F : Family) (held : List ℕ) : Type 0 where
  pub long : length held ≡ held_length
  pub main_nodes : (c : ℕ) → c < container_limit → get_or held c 0 ≡ start_node rules (main_item F) (get_elem? containers c) c
  pub running_nodes : (c : ℕ) → c < container_limit → get_or held (container_limit + c) 0 ≡ 0

-- ---- the way back

-- so many numbers are enough
abbrev pub Room : Option Witness → ℕ → Type 0
Room none n = Unit {0}
Room (some w) n = length w.falling ≤ n

-- the node stands for a chain, or for none
abbrev pub Backed : List ℕ → ℕ → ℕ → Type 0
Backed links node long = (ns : List ℕ) × (w : Option Witness) × Stored ns links node w × Room w long

-- whatever chain the node stands for is told
abbrev pub ToldBack : List ℕ → ℕ → List ℕ → Found → List ℕ → Type 0
ToldBack links node before r steps =
    (ns : List ℕ) (w : Option Witness) → Stored ns links node w → Room w (length before)
    → (r ≡ found_in ns w before) × (steps ≡ at_end (chain_records ns w) before)
