-- What is told, said of chains: the words of Theorems.
use Rattle.std.specs.Prelude.{ℕ, zero, suc, ◌≤◌, ◌<◌, ◌≡◌, true, List, [], ◌∷◌, ◌⊎◌, ◌≢◌, ◌↔◌, length, take}
use Rattle.std.proofs.Math.Option.{Option, none, some}
use Rattle.std.proofs.Math.ListN.{get_elem?}
use Rattle.answers.specs.Answers.{accepted, is_blocked}
use Rattle.image.specs.Limits.{container_limit}
use Rattle.image.specs.Policy.{Policy}
use Rattle.chains.specs.History.{History, StepAt}
use Rattle.chains.specs.Chains.{Item, Starts, Leads, Chain}
use Rattle.monitor.specs.Steps.{step_asked, step_answer}
use Rattle.monitor.specs.Runs.{run_effect}
use Rattle.witness.specs.Witness.{Witness, rising, arrival}

-- ---- the chain of the definition

-- what is shown is a chain; where nothing is shown, there is none
abbrev pub Right : Policy → History → Item → ℕ → Option Witness → Type 0
Right P h y c none = ¬ Chain P h y c
Right P h y c (some w) = Starts P w.file w.item × Leads h zero w.file w.item (rising w.falling) c y

-- any chain that there is arrives no earlier than the one that is shown
abbrev pub First : Policy → History → Item → ℕ → Option Witness → Type 0
First P h y c none = Unit {0}
First P h y c (some w) = (f : ℕ) (x : Item) (is : List ℕ) → Starts P f x → Leads h zero f x is c y → arrival (rising w.falling) ≤ arrival is

-- ---- records

-- Of the records rs on the session s: number n is accepted, or it is the last and blocked, and it is step number i of the history h.
pub record StepOfRecord (h : History) (s : List ℕ) (rs : List (List ℕ)) (n i : ℕ) : Type 0 where
  pub bytes : List ℕ
  pub there : get_elem? rs n ≡ some bytes
  pub counts : (accepted (step_answer (run_effect s (take n rs)) bytes) ≡ true) ⊎ ((suc n ≡ length rs) × (is_blocked (step_answer (run_effect s (take n rs)) bytes) ≡ true))
  pub step : StepAt h i (step_asked bytes)

-- one by one
abbrev pub Numbered : (ℕ → ℕ → Type 0) → List ℕ → List ℕ → Type 0
Numbered Is [] [] = Unit {0}
Numbered Is [] (i ∷ is) = ⊥
Numbered Is (n ∷ ns) [] = ⊥
Numbered Is (n ∷ ns) (i ∷ is) = Is n i × Numbered Is ns is

abbrev pub Rising : List ℕ → Type 0
Rising [] = Unit {0}
Rising (a ∷ []) = Unit {0}
Rising (a ∷ b ∷ l) = (a < b) × Rising (b ∷ l)

-- File is no container's number exactly if the history h has no chain for y into c. Else a chain begins in file, and the records ns, in
-- rising order, are its steps.
pub record ChainTold (P : Policy) (h : History) (s : List ℕ) (rs : List (List ℕ)) (y : Item) (c file : ℕ) (ns : List ℕ) : Type 0 where
  pub none : (file ≡ container_limit) ↔ (¬ Chain P h y c)
  pub one : file ≢ container_limit → (x : Item) × (is : List ℕ) × Starts P file x × Leads h zero file x is c y × Numbered (StepOfRecord h s rs) ns is
  pub rises : Rising ns
