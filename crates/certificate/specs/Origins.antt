-- Where the rules that govern a container come from (the paper, "Chains": "The rules governing a container"), and a certificate
-- that it is forbidden what it holds.
use Rattle.std.specs.Prelude.{ℕ, ◌≡◌, Bool, true, cond, ◌&&◌, List, ◌⊎◌, eqb}
use Rattle.lists.specs.Lists.{elem}
use Rattle.lists.specs.Counting.{least_below}
use Rattle.rules.specs.Sets.{atom}
use Rattle.rules.specs.Answers.{tag_width}
use Rattle.image.specs.Policy.{Policy}
use Rattle.chains.specs.History.{read, write, append, exec, fork, new_file, new_volatile, end, delete, History, start, ◌▸◌, step_count}
use Rattle.chains.specs.Chains.{UserRule, run_rule, Chain, Own, Reaches}

-- "for a file or volatile of the image its own permit rule", as container number c; "for a new file its creating user's", the user u by
-- step number i; "for a process, those of its last exec", step number i: "u's, and each run rule with a chain into o just before that
-- step"; none
pub data Origin : Type 0 where
  own : (c : ℕ) → Origin
  made : (i u : ℕ) → Origin
  started : (i o u : ℕ) → Origin
  nowhere : Origin

-- one for each container, followed step by step
unfoldable pub origin : History → ℕ → Origin
origin start c = own c
origin (h ▸ read p o) c = origin h c
origin (h ▸ write p o) c = origin h c
origin (h ▸ append p o) c = origin h c
origin (h ▸ exec p o u) c = cond (eqb c p) (started (step_count h) o u) (origin h c)
origin (h ▸ fork p o) c = cond (eqb c o) (origin h p) (origin h c)
origin (h ▸ new_file p o u) c = cond (eqb c o) (made (step_count h) u) (origin h c)
origin (h ▸ new_volatile p o) c = cond (eqb c o) nowhere (origin h c)
origin (h ▸ end p) c = cond (eqb c p) nowhere (origin h c)
origin (h ▸ delete p o) c = cond (eqb c o) nowhere (origin h c)

-- the history before step number i
unfoldable pub before : ℕ → History → History
before i start = start
before i (h ▸ s) = cond (eqb i (step_count h)) h (before i h)

-- the rules of an origin
abbrev pub From : Policy → History → Origin → List ℕ → Type 0
From P h (own c) r = Own P c r
From P h (made i u) r = UserRule P u r
From P h (started i o u) r = UserRule P u r ⊎ Chain P (before i h) (run_rule r) o
From P h nowhere r = ⊥

-- A certificate that c is forbidden what it holds after the history: a rule by its origin and, for each of its mixtures, an atom that
-- has a chain into c and that the mixture lacks.
pub record Certificate (P : Policy) (h : History) (c : ℕ) : Type 0 where
  pub rule : List ℕ
  pub from : From P h (origin h c) rule
  pub lacked : ℕ → ℕ
  pub reaches : (m : ℕ) → elem m rule ≡ true → Reaches P h (lacked m) c
  pub lacks : (m : ℕ) → elem m rule ≡ true → atom m (lacked m) ≡ 0

-- ---- the atom that is told of a mixture

-- t has the atom k, and m lacks it
unfoldable pub lacks_at : ℕ → ℕ → ℕ → Bool
lacks_at t m k = eqb (atom t k) 1 && eqb (atom m k) 0

-- the least atom of the tag t that the mixture m lacks; 64 if it holds them all
unfoldable pub lacked_by : ℕ → ℕ → ℕ
lacked_by t m = least_below (lacks_at t m) tag_width
