-- Chains, the rules governing a container, and when these forbid what it holds, from the policy and the accepted steps
-- alone (the paper, "Chains").
use Rattle.std.specs.Prelude.{ℕ, suc, zero, ◌+◌, ◌≤◌, ◌<◌, ◌≡◌, ◌⊎◌, ◌≢◌, true, List, [], ◌∷◌}
use Rattle.std.proofs.Math.Option.{some}
use Rattle.std.proofs.Math.ListN.{get_elem?}
use Rattle.rules.specs.Sets.{atom}
use Rattle.lists.specs.Lists.{elem}
use Rattle.rules.specs.Answers.{data_width}
use Rattle.image.specs.Limits.{is_file, is_store, no_atom}
use Rattle.image.specs.Policy.{Container, Policy, rule_at}
use Rattle.chains.specs.History.{
  Step,
  read,
  write,
  append,
  exec,
  fork,
  new_file,
  new_volatile,
  end,
  delete,
  History,
  start,
  ◌▸◌,
  step_count,
  StepAt,
}

-- ---- the policy

-- container number c of the image is K
abbrev pub ContainerAt : Policy → ℕ → Container → Type 0
ContainerAt P c K = get_elem? P.containers c ≡ some K

-- r is the rule of user number u
abbrev pub UserRule : Policy → ℕ → List ℕ → Type 0
UserRule P u r = (n : ℕ) × (get_elem? P.users u ≡ some n) × (rule_at P.rules n ≡ r)

-- ---- chains

-- What a chain is for: "Information means data atoms and twins", and "A file's run rule .. travels" too. The paper's
-- twin of the data atom d is the running atom of d.
pub data Item : Type 0 where
  data_atom running_atom : (d : ℕ) → Item
  run_rule : (r : List ℕ) → Item

-- "A data atom starts in each file naming it"; "A file's run rule starts in that file".
abbrev pub Starts : Policy → ℕ → Item → Type 0
Starts P f (data_atom d) =
    (K : Container) × ContainerAt P f K × (is_file K.kind ≡ true) × (K.atom ≡ d) × (d ≢ no_atom)
Starts P f (running_atom d) = ⊥
Starts P f (run_rule r) =
    (K : Container) × ContainerAt P f K × (is_file K.kind ≡ true) × (rule_at P.rules K.run ≡ r)

-- The step takes up x in a and puts it down, as y, in b. "Codes 1 and 4 carry from o to p, codes 2, 3 and 5 from p to o";
-- "exec turns it into its twin; twins pass by 2, 3 and 5 only"; a run rule "travels along every carrier".
pub data Carries : Step → ℕ → Item → ℕ → Item → Type 0 where
  read_atom : {p o d : ℕ} → Carries (read p o) o (data_atom d) p (data_atom d)
  read_rule : {p o : ℕ} {r : List ℕ} → Carries (read p o) o (run_rule r) p (run_rule r)
  write_any : {p o : ℕ} {x : Item} → Carries (write p o) p x o x
  append_any : {p o : ℕ} {x : Item} → Carries (append p o) p x o x
  exec_atom : {p o u d : ℕ} → Carries (exec p o u) o (data_atom d) p (running_atom d)
  exec_rule : {p o u : ℕ} {r : List ℕ} → Carries (exec p o u) o (run_rule r) p (run_rule r)
  fork_any : {p o : ℕ} {x : Item} → Carries (fork p o) p x o x

-- The step ends x, which a held before: "A write ends what o held before"; "An exec no longer ends a chain of data in p; for
-- the twins and run rules that p held it still does" (change request No. 2); "A chain ends when its holder leaves" (No. 4).
pub data Ends : Step → ℕ → Item → Type 0 where
  write_ends : {p o : ℕ} {x : Item} → Ends (write p o) o x
  exec_ends_atom : {p o u d : ℕ} → Ends (exec p o u) p (running_atom d)
  exec_ends_rule : {p o u : ℕ} {r : List ℕ} → Ends (exec p o u) p (run_rule r)
  end_ends : {p : ℕ} {x : Item} → Ends (end p) p x
  delete_ends : {p o : ℕ} {x : Item} → Ends (delete p o) o x

-- "a chain that stood there is no longer one into it and goes no further": none of the steps lo, lo + 1, .. hi - 1 ends x,
-- which stands in a
abbrev pub Stands : History → ℕ → ℕ → ℕ → Item → Type 0
Stands h lo hi a x = (j : ℕ) (s : Step) → lo ≤ j → j < hi → StepAt h j s → ¬ Ends s a x

-- "a rising list of accepted steps, possibly none: the first takes up in that file, each other where the one before it put
-- down": x stands in a before step number lo, and the steps with the numbers in the list lead it to c, as y
abbrev pub Leads : History → ℕ → ℕ → Item → List ℕ → ℕ → Item → Type 0
Leads h lo a x [] c y = (a ≡ c) × (x ≡ y) × Stands h lo (step_count h) a x
Leads h lo a x (i ∷ is) c y =
    (s : Step) × (b : ℕ) × (z : Item)
    × (lo ≤ i) × StepAt h i s × Stands h lo i a x × Carries s a x b z × Leads h (suc i) b z is c y

-- "A chain begins at the session's start in a file of the image": the history has a chain for y into c
abbrev pub Chain : Policy → History → Item → ℕ → Type 0
Chain P h y c = (f : ℕ) × (x : Item) × Starts P f x × (is : List ℕ) × Leads h zero f x is c y

-- ---- the rules governing a container

-- "for a file or volatile of the image its own permit rule"; for a process of the image none
abbrev pub Own : Policy → ℕ → List ℕ → Type 0
Own P c r = (K : Container) × ContainerAt P c K × (is_store K.kind ≡ true) × (rule_at P.rules K.permit ≡ r)

-- the rule r governs the container c after the history
abbrev pub Governs : Policy → History → ℕ → List ℕ → Type 0
Governs P start c r = Own P c r
Governs P (h ▸ read p o) c r = Governs P h c r
Governs P (h ▸ write p o) c r = Governs P h c r
Governs P (h ▸ append p o) c r = Governs P h c r
-- "for a process, those of its last exec ..: u's, and each run rule with a chain into o just before that step"
Governs P (h ▸ exec p o u) c r = ((c ≡ p) × (UserRule P u r ⊎ Chain P h (run_rule r) o)) ⊎ ((c ≢ p) × Governs P h c r)
-- "a forked process has its parent's as at the fork until it makes its own; none if there was none"
Governs P (h ▸ fork p o) c r = ((c ≡ o) × Governs P h p r) ⊎ ((c ≢ o) × Governs P h c r)
-- "for a new file its creating user's"
Governs P (h ▸ new_file p o u) c r = ((c ≡ o) × UserRule P u r) ⊎ ((c ≢ o) × Governs P h c r)
-- "for a new volatile none"
Governs P (h ▸ new_volatile p o) c r = (c ≢ o) × Governs P h c r
-- "a later holder of the number inherits neither information nor rules" (change request No. 4): none governs what left
Governs P (h ▸ end p) c r = (c ≢ p) × Governs P h c r
Governs P (h ▸ delete p o) c r = (c ≢ o) × Governs P h c r

-- ---- what is forbidden

-- The history has a chain for the atom k into c: k is a data atom, or "The running twin of atom d is d + 32".
abbrev pub Reaches : Policy → History → ℕ → ℕ → Type 0
Reaches P h k c =
    Chain P h (data_atom k) c ⊎ ((d : ℕ) × (k ≡ d + data_width) × Chain P h (running_atom d) c)

-- the mixture m holds all the information for which the history has a chain into c
abbrev pub HoldsAll : Policy → History → ℕ → ℕ → Type 0
HoldsAll P h c m = (k : ℕ) → Reaches P h k c → atom m k ≡ 1

-- Some rule governing c has no mixture that holds all the information for which the history has a chain into c. Of "each
-- source alone has a permitted mixture" and "one mixture holds them all" "The second reading counts".
abbrev pub Forbidden : Policy → History → ℕ → Type 0
Forbidden P h c = (r : List ℕ) × Governs P h c r × ((m : ℕ) → elem m r ≡ true → ¬ HoldsAll P h c m)
