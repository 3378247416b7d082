-- Where each step leaves the chains into its receiver, and into every other container.
use Prim.Native.Nat.{ℕ, zero, ◌<◌}
use native.Mathlib.Omega.{arith}
use native.Mathlib.Decide.{dec_lt}
use mathlib.Core.Path.{◌≡◌, refl, subst}
use mathlib.Core.List.{List, [], ◌∷◌}
use mathlib.Core.Logic.{◌⊎◌, inl, inr, ◌≢◌, ◌↔◌}
use borrow.Author.Tests.{eq-eqb, ne_eqb}
use Rattle.image.specs.Policy.{Policy}
use Rattle.chains.specs.History.{
  Step,
  read,
  write,
  append,
  exec,
  fork,
  new_file,
  new_volatile,
  end,
  delete,
  History,
  ◌▸◌,
  StepAt,
  receiver,
}
use Rattle.chains.specs.Chains.{
  UserRule,
  Item,
  data_atom,
  running_atom,
  run_rule,
  Carries,
  read_atom,
  read_rule,
  write_any,
  append_any,
  exec_atom,
  exec_rule,
  fork_any,
  Ends,
  write_ends,
  exec_ends_atom,
  exec_ends_rule,
  end_ends,
  delete_ends,
  Leads,
  Chain,
  Governs,
}
use Rattle.session.specs.Limits.{nobody}
use Rattle.chains.specs.Behalf.{on_behalf}
use Rattle.chains.proofs.ChainLaws.{at_lt, at_same, chain_snoc, chain_stay, chain_carry}

-- ---- only the receiver is concerned

carries_to : {s : Step} {a c : ℕ} {x y : Item} → Carries s a x c y → c ≡ receiver s
carries_to read_atom = refl
carries_to read_rule = refl
carries_to write_any = refl
carries_to append_any = refl
carries_to exec_atom = refl
carries_to exec_rule = refl
carries_to fork_any = refl

ends_at : {s : Step} {c : ℕ} {x : Item} → Ends s c x → c ≡ receiver s
ends_at write_ends = refl
ends_at exec_ends_atom = refl
ends_at exec_ends_rule = refl
ends_at end_ends = refl
ends_at delete_ends = refl

-- ---- what cannot be

abbrev pub NotRunning : Item → Type 0
NotRunning (data_atom d) = Unit {0}
NotRunning (running_atom d) = ⊥
NotRunning (run_rule r) = Unit {0}

abbrev pub NotData : Item → Type 0
NotData (data_atom d) = ⊥
NotData (running_atom d) = Unit {0}
NotData (run_rule r) = Unit {0}

pub read_brings : {b p o c : ℕ} {x y : Item} → Carries (read p o) b x c y → NotRunning y
read_brings read_atom = tt
read_brings read_rule = tt

exec_brings : {b p o u c : ℕ} {x y : Item} → Carries (exec p o u) b x c y → NotData y
exec_brings exec_atom = tt
exec_brings exec_rule = tt

new_file_any : {b p o u c : ℕ} {x y : Item} → Carries (new_file p o u) b x c y → ⊥
new_file_any = elim [ ]

new_volatile_any : {b p o c : ℕ} {x y : Item} → Carries (new_volatile p o) b x c y → ⊥
new_volatile_any = elim [ ]

end_any : {b p c : ℕ} {x y : Item} → Carries (end p) b x c y → ⊥
end_any = elim [ ]

delete_any : {b p o c : ℕ} {x y : Item} → Carries (delete p o) b x c y → ⊥
delete_any = elim [ ]

pub read_ends : {p o c : ℕ} {x : Item} → ¬ Ends (read p o) c x
read_ends = elim [ ]

pub append_ends : {p o c : ℕ} {x : Item} → ¬ Ends (append p o) c x
append_ends = elim [ ]

exec_ends : {p o u c : ℕ} {x : Item} → Ends (exec p o u) c x → NotData x
exec_ends exec_ends_atom = tt
exec_ends exec_ends_rule = tt

-- ---- a file that is deleted starts no further chain

-- what began in f has left it before step number j, which deletes f
pub deleted_first : (h : History) (j p f : ℕ) → StepAt h j (delete p f) → (x : Item) (is : List ℕ) (c : ℕ) (y : Item) → Leads h zero f x is c y
    → (i : ℕ) × (rest : List ℕ) × (is ≡ i ∷ rest) × (i < j)
deleted_first h j p f at x [] c y (e, ey, stands) = absurd (stands j (delete p f) (omega arith) (at_lt h j (delete p f) at) at delete_ends)
deleted_first h j p f at x (i ∷ rest) c y (s, b, z, lo, here, stands, ca, on) = (i, rest, refl, by (dec_lt i j))
  where
    by : Dec (i < j) → i < j
    by (yes l) = l
    by (no l) = absurd (later (dec_lt j i))
      where
        later : Dec (j < i) → ⊥
        later (yes k) = stands j (delete p f) (omega arith) k at delete_ends
        later (no k) =
            let same : i ≡ j = omega (arith, l, k) in
            let is_delete : s ≡ delete p f = at_same h j s (delete p f) (subst (λ (n : ℕ). StepAt h n s) same here) at in
            delete_any (subst (λ (t : Step). Carries t f x b z) is_delete ca)

-- ---- on whose behalf a process runs

module _ (h : History) where
  pub behalf_other : (s : Step) (c : ℕ) → c ≢ receiver s → on_behalf (h ▸ s) c ≡ on_behalf h c
  behalf_other (read p o) c ne = refl
  behalf_other (write p o) c ne = refl
  behalf_other (append p o) c ne = refl
  behalf_other (exec p o u) c ne = rw (ne_eqb c p ne)
  behalf_other (fork p o) c ne = rw (ne_eqb c o ne)
  behalf_other (new_file p o u) c ne = rw (ne_eqb c o ne)
  behalf_other (new_volatile p o) c ne = rw (ne_eqb c o ne)
  behalf_other (end p) c ne = rw (ne_eqb c p ne)
  behalf_other (delete p o) c ne = rw (ne_eqb c o ne)

  pub behalf_exec : (p o u : ℕ) → on_behalf (h ▸ exec p o u) p ≡ u
  behalf_exec p o u = rw (eq-eqb p p refl)

  pub behalf_fork : (p o : ℕ) → on_behalf (h ▸ fork p o) o ≡ on_behalf h p
  behalf_fork p o = rw (eq-eqb o o refl)

  pub behalf_file : (p o u : ℕ) → on_behalf (h ▸ new_file p o u) o ≡ nobody
  behalf_file p o u = rw (eq-eqb o o refl)

  pub behalf_volatile : (p o : ℕ) → on_behalf (h ▸ new_volatile p o) o ≡ nobody
  behalf_volatile p o = rw (eq-eqb o o refl)

module _ (P : Policy) (h : History) where
  -- ---- any other container

  pub other_back : (s : Step) (c : ℕ) → c ≢ receiver s → (x : Item) → Chain P (h ▸ s) x c → Chain P h x c
  other_back s c ne x ch = on (chain_snoc P h s x c ch)
    where
      on : (Chain P h x c × ¬ Ends s c x) ⊎ ((b : ℕ) × (y : Item) × Chain P h y b × Carries s b y c x) → Chain P h x c
      on (inl k) = k.0
      on (inr k) = absurd (ne (carries_to k.3))

  pub other_on : (s : Step) (c : ℕ) → c ≢ receiver s → (x : Item) → Chain P h x c → Chain P (h ▸ s) x c
  other_on s c ne x ch = chain_stay P h s x c ch (λ e. ne (ends_at e))

  pub other_rules_back : (s : Step) (c : ℕ) → c ≢ receiver s → (r : List ℕ) → Governs P (h ▸ s) c r → Governs P h c r
  other_rules_back (read p o) c ne r g = g
  other_rules_back (write p o) c ne r g = g
  other_rules_back (append p o) c ne r g = g
  other_rules_back (exec p o u) c ne r (inl g) = absurd (ne g.0)
  other_rules_back (exec p o u) c ne r (inr g) = g.1
  other_rules_back (fork p o) c ne r (inl g) = absurd (ne g.0)
  other_rules_back (fork p o) c ne r (inr g) = g.1
  other_rules_back (new_file p o u) c ne r (inl g) = absurd (ne g.0)
  other_rules_back (new_file p o u) c ne r (inr g) = g.1
  other_rules_back (new_volatile p o) c ne r g = g.1
  other_rules_back (end p) c ne r g = g.1
  other_rules_back (delete p o) c ne r g = g.1

  pub other_rules_on : (s : Step) (c : ℕ) → c ≢ receiver s → (r : List ℕ) → Governs P h c r → Governs P (h ▸ s) c r
  other_rules_on (read p o) c ne r g = g
  other_rules_on (write p o) c ne r g = g
  other_rules_on (append p o) c ne r g = g
  other_rules_on (exec p o u) c ne r g = inr (ne, g)
  other_rules_on (fork p o) c ne r g = inr (ne, g)
  other_rules_on (new_file p o u) c ne r g = inr (ne, g)
  other_rules_on (new_volatile p o) c ne r g = (ne, g)
  other_rules_on (end p) c ne r g = (ne, g)
  other_rules_on (delete p o) c ne r g = (ne, g)

  -- ---- what a step carried to its receiver was where the step takes up

  pub read_atom_from : {b p o c d : ℕ} {x : Item} → Chain P h x b → Carries (read p o) b x c (data_atom d) → Chain P h (data_atom d) o
  read_atom_from ch read_atom = ch

  pub read_rule_from : {b p o c : ℕ} {r : List ℕ} {x : Item} → Chain P h x b → Carries (read p o) b x c (run_rule r) → Chain P h (run_rule r) o
  read_rule_from ch read_rule = ch

  pub write_from : {b p o c : ℕ} {x y : Item} → Chain P h x b → Carries (write p o) b x c y → Chain P h y p
  write_from ch write_any = ch

  pub append_from : {b p o c : ℕ} {x y : Item} → Chain P h x b → Carries (append p o) b x c y → Chain P h y p
  append_from ch append_any = ch

  exec_atom_from : {b p o u c d : ℕ} {x : Item} → Chain P h x b → Carries (exec p o u) b x c (running_atom d) → Chain P h (data_atom d) o
  exec_atom_from ch exec_atom = ch

  exec_rule_from : {b p o u c : ℕ} {r : List ℕ} {x : Item} → Chain P h x b → Carries (exec p o u) b x c (run_rule r) → Chain P h (run_rule r) o
  exec_rule_from ch exec_rule = ch

  fork_from : {b p o c : ℕ} {x y : Item} → Chain P h x b → Carries (fork p o) b x c y → Chain P h y p
  fork_from ch fork_any = ch

  -- ---- a chain after one more step is one that stood there, or one that the step carried there

  pub came : {Z : Type 0} {s : Step} {y : Item} {c : ℕ} → (Chain P h y c → ¬ Ends s c y → Z) → ((b : ℕ) (x : Item) → Chain P h x b → Carries s b x c y → Z)
      → Chain P (h ▸ s) y c → Z
  came {Z} {s} {y} {c} f g ch = on (chain_snoc P h s y c ch)
    where
      on : (Chain P h y c × ¬ Ends s c y) ⊎ ((b : ℕ) × (x : Item) × Chain P h x b × Carries s b x c y) → Z
      on (inl k) = f k.0 k.1
      on (inr k) = g k.0 k.1 k.2 k.3

  pub stay : {s : Step} {y : Item} {c : ℕ} → ¬ Ends s c y → Chain P h y c → Chain P (h ▸ s) y c
  stay {s} {y} {c} ne ch = chain_stay P h s y c ch ne

  pub carry : {s : Step} {x y : Item} {b c : ℕ} → Carries s b x c y → Chain P h x b → Chain P (h ▸ s) y c
  carry {s} {x} {y} {b} {c} ca ch = chain_carry P h s x y b c ch ca

  -- ---- right after an exec

  module _ (p o u : ℕ) where
    -- a data atom has a chain into p exactly if it had one before
    pub exec_data : (d : ℕ) → Chain P (h ▸ exec p o u) (data_atom d) p ↔ Chain P h (data_atom d) p
    exec_data d = (came (λ ch ne. ch) (λ b y ch ca. absurd (exec_brings ca)), stay exec_ends)

    -- a running atom has one exactly if its data atom had one into o
    pub exec_running : (d : ℕ) → Chain P (h ▸ exec p o u) (running_atom d) p ↔ Chain P h (data_atom d) o
    exec_running d = (came (λ ch ne. absurd (ne exec_ends_atom)) (λ b y ch ca. exec_atom_from ch ca), carry exec_atom)

    -- a run rule has one exactly if it had one into o
    pub exec_run_rule : (r : List ℕ) → Chain P (h ▸ exec p o u) (run_rule r) p ↔ Chain P h (run_rule r) o
    exec_run_rule r = (came (λ ch ne. absurd (ne exec_ends_rule)) (λ b y ch ca. exec_rule_from ch ca), carry exec_rule)

  -- ---- right after an end or a delete nothing has a chain into the number

  pub end_none : (p : ℕ) (x : Item) → ¬ Chain P (h ▸ end p) x p
  end_none p x = came (λ ch ne. ne end_ends) (λ b y ch ca. end_any ca)

  pub delete_none : (p o : ℕ) (x : Item) → ¬ Chain P (h ▸ delete p o) x o
  delete_none p o x = came (λ ch ne. ne delete_ends) (λ b y ch ca. delete_any ca)

  -- ---- right after a number is taken into which nothing had a chain

  pub new_file_none : (p o u : ℕ) → ((x : Item) → ¬ Chain P h x o) → (x : Item) → ¬ Chain P (h ▸ new_file p o u) x o
  new_file_none p o u em x = came (λ ch ne. em x ch) (λ b y ch ca. new_file_any ca)

  pub new_file_rules : (p o u : ℕ) (r : List ℕ) → Governs P (h ▸ new_file p o u) o r ↔ UserRule P u r
  new_file_rules p o u r = (back, λ g. inl (refl, g))
    where
      back : Governs P (h ▸ new_file p o u) o r → UserRule P u r
      back (inl (e, g)) = g
      back (inr (ne, g)) = absurd (ne refl)

  pub new_volatile_none : (p o : ℕ) → ((x : Item) → ¬ Chain P h x o) → (x : Item) → ¬ Chain P (h ▸ new_volatile p o) x o
  new_volatile_none p o em x = came (λ ch ne. em x ch) (λ b y ch ca. new_volatile_any ca)

  pub new_volatile_rules : (p o : ℕ) (r : List ℕ) → ¬ Governs P (h ▸ new_volatile p o) o r
  new_volatile_rules p o r g = g.0 refl

  pub fork_chains : (p o : ℕ) → ((x : Item) → ¬ Chain P h x o) → (x : Item) → Chain P (h ▸ fork p o) x o ↔ Chain P h x p
  fork_chains p o em x = (came (λ ch ne. absurd (em x ch)) (λ b y ch ca. fork_from ch ca), carry fork_any)

  pub fork_rules : (p o : ℕ) (r : List ℕ) → Governs P (h ▸ fork p o) o r ↔ Governs P h p r
  fork_rules p o r = (back, λ g. inl (refl, g))
    where
      back : Governs P (h ▸ fork p o) o r → Governs P h p r
      back (inl (e, g)) = g
      back (inr (ne, g)) = absurd (ne refl)
