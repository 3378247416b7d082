-- What is proved of chains and of every monitor that follows the table (demand 3; the paper, "Chains"). Read the definitions
-- in specs/; everything else in this folder serves these statements.
use Prim.Native.Nat.{ℕ, suc, zero, ◌<◌}
use mathlib.Core.Path.{◌≡◌, refl, sym, subst}
use mathlib.Core.Logic.{◌⊎◌, inl, inr, ⊎_elim, ◌↔◌}
use mathlib.Core.List.{List, ◌∷◌, ◌++◌}
use mathlib.Core.Bool.{true, false}
use mathlib.Core.Option.{Option, some}
use lib.ListN.{take}
use Rattle.lists.proofs.Bools.{decide}
use Rattle.rules.specs.Rules.{covers}
use Rattle.image.specs.Limits.{is_free, is_guarded}
use Rattle.image.specs.Policy.{Policy, Sound}
use Rattle.chains.specs.History.{Step, exec, end, delete, History, start, ◌▸◌, StepAt}
use Rattle.chains.specs.Chains.{Item, data_atom, running_atom, run_rule, Starts, Carries, Ends, Leads, Chain, Governs}
use Rattle.chains.specs.Behalf.{on_behalf}
use Rattle.chains.specs.Guards.{guarded, writing, written_into}
use Rattle.answers.specs.declared.Answer.{Answer}
use Rattle.answers.specs.Answers.{is_blocked}
use Rattle.chains.specs.Demand.{after, history_of, history_from, Demand3, TagTold, TakenAnew, BlockedExactly, GuardedHolds, GuardedSpared}
use Rattle.chains.specs.Table.{State, begin, Faithful}
use Rattle.chains.proofs.ChainLaws.{chain_snoc, chain_stay, chain_carry, chain_none, chain_here}
use Rattle.chains.proofs.Inductive.{Built, listed, built}
use Rattle.chains.proofs.Steps.{exec_data, exec_running, exec_run_rule, end_none, delete_none, deleted_first}
use Rattle.chains.proofs.Start.{Inv, begin_ok}
use Rattle.chains.proofs.GuardLaws.{Guarding}
use Rattle.chains.proofs.Monitors.{Told, op_blocked, inv_after, told_at, given_at, taken_at, spared_at, holds_after, history_from_append}

-- ---- demand 3: of every monitor that follows the table, from every state that reads as the start of a sound policy

module _ {S R : Type 0} (op : S → R → S × Answer) (step_of : R → Option Step) (view : S → State) (Valid : S → Type 0) where
  -- an accepted access is answered by an alert exactly when the chains into the receiver and the rules governing it say so
  pub demand3 : Faithful op step_of view Valid → (P : Policy) → Sound P → (σ : S) → Valid σ → view σ ≡ begin P → Demand3 op step_of σ P
  demand3 F P ok σ v e rs n s a A =
      (told_at P op step_of view Valid F start σ v (subst (Inv P start) (sym e) (begin_ok P ok)) rs n s a A).verdict

  -- an accepted access is answered with its receiver and exactly the information for which there is a chain into it
  pub tag_told : Faithful op step_of view Valid → (P : Policy) → Sound P → (σ : S) → Valid σ → view σ ≡ begin P → TagTold op step_of σ P
  tag_told F P ok σ v e rs n s a A =
      let t : Told P (history_of op step_of σ (take (suc n) rs)) s a =
      told_at P op step_of view Valid F start σ v (subst (Inv P start) (sym e) (begin_ok P ok)) rs n s a A in
      (t.at, t.tag)

  -- ---- guarded files (change request No. 9)

  -- an access that is not refused is answered alert or blocked exactly when it is forbidden, and blocked exactly when its receiver is
  -- guarded too
  pub blocked_exactly : Faithful op step_of view Valid → (P : Policy) → Sound P → (σ : S) → Valid σ → view σ ≡ begin P → BlockedExactly op step_of σ P
  blocked_exactly F P ok σ v e rs n s a A j = given_at P op step_of view Valid F start σ v (subst (Inv P start) (sym e) (begin_ok P ok)) rs n s a A j

  -- of any state: a blocked access is a write or an append, and it changes nothing
  pub blocked_step : Faithful op step_of view Valid → (σ : S) → Valid σ → (r : R) → is_blocked (op σ r).1 ≡ true
      → (s : Step) × (step_of r ≡ some s) × (view (op σ r).0 ≡ view σ) × (writing s ≡ true)
  blocked_step F = op_blocked op step_of view Valid F

  -- what is written into a guarded file is never forbidden there, and no accepted step raises an alert at one
  pub guarded_holds : Faithful op step_of view Valid → (P : Policy) → Sound P → (σ : S) → Valid σ → view σ ≡ begin P → GuardedHolds op step_of σ P
  guarded_holds F P ok σ v e rs c =
      holds_after P (history_of op step_of σ rs) (view (after op σ rs))
      (inv_after P op step_of view Valid F start σ v (subst (Inv P start) (sym e) (begin_ok P ok)) rs) c

  pub guarded_spared : Faithful op step_of view Valid → (P : Policy) → Sound P → (σ : S) → Valid σ → view σ ≡ begin P → GuardedSpared op step_of σ P
  guarded_spared F P ok σ v e = spared_at P op step_of view Valid F start σ v (subst (Inv P start) (sym e) (begin_ok P ok))

  -- the row of a container is guarded exactly as the history says; if it is, its permit rule covers its tag, or nothing was written into
  -- it and its tag is the start's
  pub guarded_kind : Faithful op step_of view Valid → (P : Policy) → Sound P → (σ : S) → Valid σ → view σ ≡ begin P
      → (rs : List R) (c : ℕ) → is_guarded ((view (after op σ rs)).row c).kind ≡ guarded P (history_of op step_of σ rs) c
  guarded_kind F P ok σ v e rs c =
      ((inv_after P op step_of view Valid F start σ v (subst (Inv P start) (sym e) (begin_ok P ok)) rs).guarding c).guards

  pub guarded_covered : Faithful op step_of view Valid → (P : Policy) → Sound P → (σ : S) → Valid σ → view σ ≡ begin P
      → (rs : List R) (c : ℕ) → guarded P (history_of op step_of σ rs) c ≡ true
      → (covers ((view (after op σ rs)).row c).permit ((view (after op σ rs)).row c).tag ≡ true)
      ⊎ ((written_into (history_of op step_of σ rs) c ≡ false) × (((view (after op σ rs)).row c).tag ≡ ((begin P).row c).tag))
  guarded_covered F P ok σ v e rs c q =
      let g : Guarding P (history_of op step_of σ rs) c ((view (after op σ rs)).row c) =
      (inv_after P op step_of view Valid F start σ v (subst (Inv P start) (sym e) (begin_ok P ok)) rs).guarding c in
      ⊎_elim (λ w. inl (g.covered q w)) (λ w. inr (w, g.first q w)) (decide (written_into (history_of op step_of σ rs) c))

  -- an accepted fork, new file or new volatile takes a number to which nothing of its past comes back
  pub number_taken : Faithful op step_of view Valid → (P : Policy) → Sound P → (σ : S) → Valid σ → view σ ≡ begin P → TakenAnew op step_of σ P
  number_taken F P ok σ v e = taken_at P op step_of view Valid F start σ v (subst (Inv P start) (sym e) (begin_ok P ok))

  -- the row of a container in use names the user on whose behalf it runs: the last exec's, through forks, or nobody
  pub behalf_told : Faithful op step_of view Valid → (P : Policy) → Sound P → (σ : S) → Valid σ → view σ ≡ begin P
      → (rs : List R) (c : ℕ) → is_free ((view (after op σ rs)).row c).kind ≡ false
      → ((view (after op σ rs)).row c).behalf ≡ on_behalf (history_of op step_of σ rs) c
  behalf_told F P ok σ v e rs c used =
      (((inv_after P op step_of view Valid F start σ v (subst (Inv P start) (sym e) (begin_ok P ok)) rs).rows c).good used).behalf

-- the history of a list of records begins with the history of its first records
pub history_append : {S R : Type 0} (op : S → R → S × Answer) (step_of : R → Option Step) (σ : S) (rs qs : List R)
    → history_of op step_of σ (rs ++ qs) ≡ history_from op step_of (history_of op step_of σ rs) (after op σ rs) qs
history_append op step_of σ rs qs = history_from_append op step_of start σ rs qs

-- ---- chains, by the length of the history

-- with no step, a chain is one into the file in which it begins
pub chain_start : (P : Policy) (x : Item) (c : ℕ) → Chain P start x c ↔ Starts P c x
chain_start P x c = (chain_none P x c, chain_here P x c)

-- with one more step, a chain is one that stood there and is not ended, or one that the step carries there
pub chain_step : (P : Policy) (h : History) (s : Step) (y : Item) (c : ℕ)
    → Chain P (h ▸ s) y c ↔ ((Chain P h y c × ¬ Ends s c y) ⊎ ((b : ℕ) × (x : Item) × Chain P h x b × Carries s b x c y))
chain_step P h s y c = (chain_snoc P h s y c, back)
  where
    back : (Chain P h y c × ¬ Ends s c y) ⊎ ((b : ℕ) × (x : Item) × Chain P h x b × Carries s b x c y) → Chain P (h ▸ s) y c
    back (inl (ch, ne)) = chain_stay P h s y c ch ne
    back (inr (b, x, ch, ca)) = chain_carry P h s x y b c ch ca

-- a chain as a rising list of steps is one built up step by step
pub same_chains : (P : Policy) (h : History) (x : Item) (c : ℕ) → Chain P h x c ↔ Built P h x c
same_chains P h x c = (built P h x c, listed)

-- ---- program starts (change request No. 2)

module _ (P : Policy) (h : History) (p o u : ℕ) where
  -- right after an exec, a data atom has a chain into p exactly if it had one before
  pub exec_keeps_data : (d : ℕ) → Chain P (h ▸ exec p o u) (data_atom d) p ↔ Chain P h (data_atom d) p
  exec_keeps_data = exec_data P h p o u

  -- a running atom has one exactly if its data atom had one into o: what p ran before is gone, what it keeps stays data
  pub exec_runs_object : (d : ℕ) → Chain P (h ▸ exec p o u) (running_atom d) p ↔ Chain P h (data_atom d) o
  exec_runs_object = exec_running P h p o u

  -- a run rule has one exactly if it had one into o
  pub exec_takes_rules : (r : List ℕ) → Chain P (h ▸ exec p o u) (run_rule r) p ↔ Chain P h (run_rule r) o
  exec_takes_rules = exec_run_rule P h p o u

  -- so no run rule travels on with data that is kept: one that o did not have has no chain into p any more
  pub exec_drops_rules : (r : List ℕ) → ¬ Chain P h (run_rule r) o → ¬ Chain P (h ▸ exec p o u) (run_rule r) p
  exec_drops_rules r ne ch = ne ((exec_takes_rules r).0 ch)

-- ---- processes that end and files that are deleted (change request No. 4)

module _ (P : Policy) (h : History) (p : ℕ) where
  -- right after an end nothing has a chain into the number, and no rule governs it
  pub ended_holds_none : (x : Item) → ¬ Chain P (h ▸ end p) x p
  ended_holds_none = end_none P h p

  pub ended_ungoverned : (r : List ℕ) → ¬ Governs P (h ▸ end p) p r
  ended_ungoverned r g = g.0 refl

  -- the same of a delete
  pub deleted_holds_none : (o : ℕ) (x : Item) → ¬ Chain P (h ▸ delete p o) x o
  deleted_holds_none o = delete_none P h p o

  pub deleted_ungoverned : (o : ℕ) (r : List ℕ) → ¬ Governs P (h ▸ delete p o) o r
  deleted_ungoverned o r g = g.0 refl

-- A file that is deleted starts no further chain: whatever leads on from what began in f takes its first step before the one
-- that deletes f.
pub deleted_starts_none : (h : History) (j p f : ℕ) → StepAt h j (delete p f) → (x : Item) (is : List ℕ) (c : ℕ) (y : Item) → Leads h zero f x is c y
    → (i : ℕ) × (rest : List ℕ) × (is ≡ i ∷ rest) × (i < j)
deleted_starts_none = deleted_first
