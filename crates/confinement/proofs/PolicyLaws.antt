-- The policy of profiles within the limits is one that an image can spell.
use Prim.Native.Nat.{ℕ, suc, ◌+◌, ◌*◌, ◌^◌, ◌≤◌, ◌<◌}
use native.Mathlib.Omega.{arith}
use mathlib.Core.Path.{◌≡◌, refl, ap, ◌∙◌}
use mathlib.Core.Bool.{Bool, true, false, cond, ◌||◌}
use mathlib.Core.List.{List, [], ◌∷◌, map}
use lib.Pow.{pow-lt, pow_pos}
use lib.Bits.{bit_or, or_lt}
use lib.Dec.{eqb, ltb, leb}
use lib.ListN.{length, replicate, length-append, length-replicate}
use borrow.Author.Tests.{lt-ltb, leb-true}
use Rattle.image.proofs.KindLaws.{file_accepted, process_accepted}
use Rattle.lists.specs.Lists.{every, elem, known, position, same_list}
use Rattle.lists.proofs.Bools.{and_in, and_0, and_1, or_0, or_1}
use Rattle.lists.proofs.Elem.{elem_here, elem_there}
use Rattle.lists.proofs.Every.{every_0, every_1, every_nil, every_cons, every_append, every_replicate, every_elem}
use Rattle.lists.proofs.Known.{position_lt}
use Rattle.rules.specs.Rules.{normal, unrestricted}
use Rattle.rules.specs.Answers.{data_width, tag_width, mixture_limit}
use Rattle.rules.proofs.RuleLaws.{normal_among}
use Rattle.image.specs.Limits.{unrestricted_number, no_owner, no_atom, file_kind}
use Rattle.image.specs.Policy.{unrestricted_rule, owner_good, named, container_good, rule_good, Sound}
use Rattle.profiles.specs.Profiles.{Mode, Profile}
use Rattle.confinement.specs.Confinement.{paths_of, some_of, reading, executing, writing, unconfined, inheriting, confined, modes_on}
use Rattle.confinement.specs.Confinement.{file_atoms, atoms_from, run_mixture, programs_with, profiles_at, or_else, if_some, permit_mixtures}
use Rattle.confinement.specs.Confinement.{run_mixtures, rules_from, rules_of, files_from, initial_process, profile_policy}
use Rattle.confinement.specs.Images.{limits_good}
use Rattle.confinement.proofs.PathsNamed.{profiles_known}

-- ---- mixtures have 64 atoms

abbrev small : ℕ → Bool
small m = ltb m (2 ^ tag_width)

atom_lt : (b : Bool) (k : ℕ) → k < tag_width → cond b (2 ^ k) 0 < 2 ^ tag_width
atom_lt true k h = pow-lt h
atom_lt false k h = pow_pos tag_width

file_lt : (k : ℕ) (ms : List Mode) → k < data_width → file_atoms k ms < 2 ^ tag_width
unfolding file_atoms
file_lt k ms h =
    or_lt tag_width (cond (some_of reading ms) (2 ^ k) 0) (cond (some_of executing ms) (2 ^ (data_width + k)) 0)
    (atom_lt (some_of reading ms) k (omega arith)) (atom_lt (some_of executing ms) (data_width + k) (omega arith))

atoms_lt : (k : ℕ) (qs : List (List ℕ)) (p : Profile) → k + length qs ≤ data_width → atoms_from k qs p < 2 ^ tag_width
unfolding atoms_from
atoms_lt k [] p h = pow_pos tag_width
atoms_lt k (q ∷ qs) p h =
    or_lt tag_width (file_atoms k (modes_on p q)) (atoms_from (suc k) qs p) (file_lt k (modes_on p q) (omega arith)) (atoms_lt (suc k) qs p (omega arith))

module _ (ns : List (List ℕ)) (few : length ns ≤ data_width) where
  pub run_lt : (p : Profile) → known p.path ns ≡ true → run_mixture ns p < 2 ^ tag_width
  unfolding run_mixture
  run_lt p h =
      let l : data_width + position p.path ns < tag_width = omega (arith, position_lt same_list p.path ns h) in
      or_lt tag_width (2 ^ (data_width + position p.path ns)) (atoms_from 0 ns p) (pow-lt l) (atoms_lt 0 ns p (omega arith))

  abbrev own : Profile → Bool
  own p = known p.path ns

  -- with more atoms, such as the file's own
  runs_small : (x : ℕ) → x < 2 ^ tag_width → (ps : List Profile) → every own ps ≡ true → every small (map (λ p. bit_or (run_mixture ns p) x) ps) ≡ true
  runs_small x l [] h = every_nil small
  runs_small x l (p ∷ ps) h =
      every_cons small (bit_or (run_mixture ns p) x) (map (λ p. bit_or (run_mixture ns p) x) ps)
      (lt-ltb (bit_or (run_mixture ns p) x) (2 ^ tag_width) (or_lt tag_width (run_mixture ns p) x (run_lt p (every_0 own p ps h)) l))
      (runs_small x l ps (every_1 own p ps h))

  bare_small : (ps : List Profile) → every own ps ≡ true → every small (map (run_mixture ns) ps) ≡ true
  bare_small [] h = every_nil small
  bare_small (p ∷ ps) h =
      every_cons small (run_mixture ns p) (map (run_mixture ns) ps) (lt-ltb (run_mixture ns p) (2 ^ tag_width) (run_lt p (every_0 own p ps h))) (bare_small ps (every_1 own p ps h))

-- ---- programs that are chosen

chosen : (f : Profile → Bool) (b : Bool) (p : Profile) (ps : List Profile) → f p ≡ true → every f ps ≡ true → every f (cond b (p ∷ ps) ps) ≡ true
chosen f true p ps h t = every_cons f p ps h t
chosen f false p ps h t = t

pub with_every : (f : Profile → Bool) (wanted : List Mode) (q : List ℕ) (ps : List Profile) → every f ps ≡ true → every f (programs_with wanted q ps) ≡ true
unfolding programs_with
with_every f wanted q [] h = every_nil f
with_every f wanted q (p ∷ ps) h =
    chosen f (some_of wanted (modes_on p q)) p (programs_with wanted q ps) (every_0 f p ps h) (with_every f wanted q ps (every_1 f p ps h))

pub at_every : (f : Profile → Bool) (q : List ℕ) (ps : List Profile) → every f ps ≡ true → every f (profiles_at q ps) ≡ true
unfolding profiles_at
at_every f q [] h = every_nil f
at_every f q (p ∷ ps) h =
    chosen f (Rattle.lists.specs.Lists.same_list q p.path) p (profiles_at q ps) (every_0 f p ps h) (at_every f q ps (every_1 f p ps h))

-- ---- rules

else_every : (f : ℕ → Bool) (r z : List ℕ) → every f r ≡ true → every f z ≡ true → every f (or_else r z) ≡ true
unfolding or_else
else_every f [] z h t = t
else_every f (m ∷ r) z h t = h

some_every : (f : ℕ → Bool) (ps : List Profile) (r z : List ℕ) → every f r ≡ true → every f z ≡ true → every f (if_some ps r z) ≡ true
unfolding if_some
some_every f [] r z h t = t
some_every f (p ∷ ps) r z h t = h

unrestricted_small : every small unrestricted_rule ≡ true
unfolding unrestricted_rule unrestricted every
unrestricted_small = refl

module _ (ns : List (List ℕ)) (few : length ns ≤ data_width) (ps : List Profile) (ok : every (λ p. known p.path ns) ps ≡ true) where
  pub permit_small : (k : ℕ) (q : List ℕ) → k < data_width → every small (permit_mixtures ns ps k q) ≡ true
  unfolding permit_mixtures
  permit_small k q h =
      let l : 2 ^ k < 2 ^ tag_width = atom_lt true k (omega arith) in
      else_every small (map (λ p. bit_or (run_mixture ns p) (2 ^ k)) (programs_with writing q ps)) (2 ^ k ∷ [])
      (runs_small ns few (2 ^ k) l (programs_with writing q ps) (with_every (λ p. known p.path ns) writing q ps ok))
      (every_cons small (2 ^ k) [] (lt-ltb (2 ^ k) (2 ^ tag_width) l) (every_nil small))

  pub run_small : (q : List ℕ) → every small (run_mixtures ns ps q) ≡ true
  unfolding run_mixtures
  run_small q =
      else_every small (map (run_mixture ns) (profiles_at q ps)) _ (bare_small ns few (profiles_at q ps) (at_every (λ p. known p.path ns) q ps ok))
      (some_every small (programs_with unconfined q ps) unrestricted_rule _ unrestricted_small
      (else_every small (map (run_mixture ns) (programs_with inheriting q ps)) _
      (bare_small ns few (programs_with inheriting q ps) (with_every (λ p. known p.path ns) inheriting q ps ok))
      (some_every small (programs_with confined q ps) [] unrestricted_rule (every_nil small) unrestricted_small)))

every_from : (f : ℕ → Bool) (r : List ℕ) → ((m : ℕ) → elem m r ≡ true → f m ≡ true) → every f r ≡ true
every_from f [] h = every_nil f
every_from f (m ∷ r) h = every_cons f m r (h m (elem_here m r)) (every_from f r (λ n e. h n (elem_there n m r e)))

normal_every : (f : ℕ → Bool) (r : List ℕ) → every f r ≡ true → every f (normal r) ≡ true
normal_every f r h = every_from f (normal r) (λ m e. every_elem f r m h (normal_among r m e))

-- ---- the policy

pub rules_length : (ns : List (List ℕ)) (ps : List Profile) (k : ℕ) (qs : List (List ℕ)) → length (rules_from ns ps k qs) ≡ 2 * length qs
unfolding rules_from
rules_length ns ps k [] = refl
rules_length ns ps k (q ∷ qs) = let e : suc (suc (2 * length qs)) ≡ 2 * suc (length qs) = omega arith in ap (λ n. suc (suc n)) (rules_length ns ps (suc k) qs) ∙ e

pub files_length : (k : ℕ) (qs : List (List ℕ)) → length (files_from k qs) ≡ length qs
unfolding files_from
files_length k [] = refl
files_length k (q ∷ qs) = ap suc (files_length (suc k) qs)

abbrev short : List ℕ → Bool
short r = leb (length r) mixture_limit

module _ (ns : List (List ℕ)) (few : length ns ≤ data_width) (ps : List Profile) (ok : every (λ p. known p.path ns) ps ≡ true) where
  rules_good_lem : (k : ℕ) (qs : List (List ℕ)) → k + length qs ≤ data_width → every short (rules_from ns ps k qs) ≡ true → every rule_good (rules_from ns ps k qs) ≡ true
  unfolding rules_from rule_good
  rules_good_lem k [] l h = every_nil rule_good
  rules_good_lem k (q ∷ qs) l h =
      let h1 = every_1 short (normal (permit_mixtures ns ps k q)) (normal (run_mixtures ns ps q) ∷ rules_from ns ps (suc k) qs) h in
      every_cons rule_good (normal (permit_mixtures ns ps k q)) (normal (run_mixtures ns ps q) ∷ rules_from ns ps (suc k) qs)
      (and_in (every_0 short (normal (permit_mixtures ns ps k q)) (normal (run_mixtures ns ps q) ∷ rules_from ns ps (suc k) qs) h)
      (normal_every small (permit_mixtures ns ps k q) (permit_small ns few ps ok k q (omega arith))))
      (every_cons rule_good (normal (run_mixtures ns ps q)) (rules_from ns ps (suc k) qs)
      (and_in (every_0 short (normal (run_mixtures ns ps q)) (rules_from ns ps (suc k) qs) h1) (normal_every small (run_mixtures ns ps q) (run_small ns few ps ok q)))
      (rules_good_lem (suc k) qs (omega arith) (every_1 short (normal (run_mixtures ns ps q)) (rules_from ns ps (suc k) qs) h1)))

files_good : (n k : ℕ) (qs : List (List ℕ)) → k + length qs ≤ data_width → 2 * (k + length qs) ≤ n → every (container_good n) (files_from k qs) ≡ true
unfolding files_from named
files_good n k [] l h = every_nil (container_good n)
files_good n k (q ∷ qs) l h =
    every_cons (container_good n) (record { kind = file_kind; atom = k; permit = 2 * k; run = 2 * k + 1 }) (files_from (suc k) qs)
    (file_accepted n k (2 * k) (2 * k + 1) (or_0 (ltb k data_width) (eqb k no_atom) (lt-ltb k data_width (omega arith)))
    (or_0 (ltb (2 * k) n) (eqb (2 * k) unrestricted_number) (lt-ltb (2 * k) n (omega arith)))
    (or_0 (ltb (2 * k + 1) n) (eqb (2 * k + 1) unrestricted_number) (lt-ltb (2 * k + 1) n (omega arith))))
    (files_good n (suc k) qs (omega arith) (omega arith))

process_good : (n : ℕ) → container_good n initial_process ≡ true
unfolding initial_process
process_good n = process_accepted n

-- nobody owns a rule
pub profile_none : (ps : List Profile) → (profile_policy ps).owners ≡ replicate (length (profile_policy ps).rules) no_owner
unfolding profile_policy
profile_none ps = refl

pub profile_nobody : (ps : List Profile) → every (eqb no_owner) (profile_policy ps).owners ≡ true
unfolding profile_policy
profile_nobody ps = every_replicate (eqb no_owner) (length (rules_of ps)) no_owner refl

module _ (ps : List Profile) (ok : limits_good ps ≡ true) where
  pub few_paths : length (paths_of ps) ≤ data_width
  unfolding limits_good
  few_paths = leb-true (length (paths_of ps)) data_width (and_0 (leb (length (paths_of ps)) data_width) (every short (rules_of ps)) ok)

  pub short_rules : every short (rules_of ps) ≡ true
  unfolding limits_good
  short_rules = and_1 (leb (length (paths_of ps)) data_width) ok

  pub rules_count : length (rules_of ps) ≡ 2 * length (paths_of ps)
  unfolding rules_of
  rules_count = rules_length (paths_of ps) ps 0 (paths_of ps)

  pub profile_sound : Sound (profile_policy ps)
  unfolding profile_policy owner_good
  profile_sound =
      record {
        few_containers = omega (arith, length-append (files_from 0 (paths_of ps)) (initial_process ∷ []), files_length 0 (paths_of ps), few_paths);
        few_users = omega arith;
        few_rules = omega (arith, rules_count, few_paths);
        rules_good = unfold rules_of in rules_good_lem (paths_of ps) few_paths ps (profiles_known ps) 0 (paths_of ps) (omega (arith, few_paths)) (short_rules);
        containers_good =
            every_append (container_good (length (rules_of ps))) (files_from 0 (paths_of ps)) (initial_process ∷ [])
            (files_good (length (rules_of ps)) 0 (paths_of ps) (omega (arith, few_paths)) (omega (arith, rules_count)))
            (every_cons (container_good (length (rules_of ps))) initial_process [] (process_good (length (rules_of ps))) (every_nil (container_good (length (rules_of ps)))));
        users_good =
            every_cons (named (length (rules_of ps))) unrestricted_number [] (unfold named in or_1 (ltb unrestricted_number (length (rules_of ps))) true refl)
            (every_nil (named (length (rules_of ps))));
        owners_long = length-replicate {A = ℕ} (length (rules_of ps)) no_owner;
        owners_good = every_replicate (λ o. ltb o 1 || eqb o no_owner) (length (rules_of ps)) no_owner refl;
      }
