-- The policy of the tables is that of the profiles.
use Prim.Native.Nat.{ℕ, suc, ◌+◌, ◌*◌, ◌/◌, ◌%◌, ◌≤◌, ◌<◌}
use native.Mathlib.Omega.{arith}
use mathlib.Core.Path.{◌≡◌, refl, sym, ap, ◌∙◌}
use mathlib.Core.List.{List, [], ◌∷◌, ◌++◌, map}
use lib.Dec.{eqb}
use lib.ListN.{length, get_or, take, replicate, length-map}
use borrow.Author.Tests.{eq-eqb, ne_eqb}
use Rattle.lists.specs.Lists.{known, position, same_list}
use Rattle.lists.proofs.Every.{every_get_d}
use Rattle.lists.proofs.Known.{position_lt}
use Rattle.rules.specs.Rules.{normal}
use Rattle.rules.specs.Answers.{data_width}
use Rattle.image.specs.Limits.{unrestricted_number, no_owner}
use Rattle.image.specs.Policy.{Container}
use Rattle.profiles.specs.Profiles.{Profile}
use Rattle.confinement.specs.Confinement.{paths_of, run_mixture, permit_mixtures, run_mixtures, rules_from, rules_of, files_from, initial_process, profile_policy}
use Rattle.confinement.specs.Tables.{no_profile, mixtures, column_at, rule_from, forms_from, table_policy, Tabulated}
use Rattle.confinement.proofs.PathsNamed.{profiles_known, paths_distinct, number_tells}
use Rattle.confinement.proofs.ModeTables.{bits_on, permit_from_lem, run_from_lem, table_runs, table_column, table_own}
use Rattle.confinement.proofs.PathRuleRows.{files_same, forms_length}

-- ---- rules by turns

forms_rules : (f : ℕ → List ℕ) (ns : List (List ℕ)) (ps : List Profile) (k : ℕ) (qs : List (List ℕ))
    → ((i : ℕ) → i < length qs → f (2 * (k + i)) ≡ permit_mixtures ns ps (k + i) (get_or qs i []))
    → ((i : ℕ) → i < length qs → f (2 * (k + i) + 1) ≡ run_mixtures ns ps (get_or qs i []))
    → forms_from f (2 * k) (2 * length qs) ≡ rules_from ns ps k qs
unfolding forms_from rules_from
forms_rules f ns ps k [] p r = refl
forms_rules f ns ps k (q ∷ qs) p r =
    let n : 2 * suc (length qs) ≡ suc (suc (2 * length qs)) = omega arith in
    let z : k + 0 ≡ k = omega arith in
    let o : 2 * k + 1 ≡ suc (2 * k) = omega arith in
    let t : suc (suc (2 * k)) ≡ 2 * suc k = omega arith in
    let a : f (2 * k) ≡ permit_mixtures ns ps k q = rw z at (p 0 (omega arith)) in
    let b : f (suc (2 * k)) ≡ run_mixtures ns ps q = rw (z, o) at (r 0 (omega arith)) in
    rw (n, a, b, t)
    (ap (λ (l : List (List ℕ)). normal (permit_mixtures ns ps k q) ∷ normal (run_mixtures ns ps q) ∷ l)
    (forms_rules f ns ps (suc k) qs
    (λ i h. let e : suc k + i ≡ k + suc i = omega arith in rw e (p (suc i) (omega arith)))
    (λ i h. let e : suc k + i ≡ k + suc i = omega arith in rw e (r (suc i) (omega arith)))))

-- ---- the tables of profiles

module _ (ps : List Profile) (own modes : List ℕ) (n m : ℕ) (t : Tabulated ps own modes n m) where
  abbrev ns : List (List ℕ)
  ns = paths_of ps

  few : length (paths_of ps) ≤ data_width
  few = omega (arith, t.paths, t.few)

  pub own_less : (j : ℕ) → j < m → get_or own j 0 < data_width
  own_less j l =
      let p = t.programs in
      let k = every_get_d (λ q. known q.path (paths_of ps)) ps j no_profile (omega (arith, p.count)) (profiles_known ps) in
      omega (arith, p.owns j l, position_lt same_list (get_or ps j no_profile).path (paths_of ps) k, few)

  pub runs_are : mixtures own modes n m ≡ map (run_mixture (paths_of ps)) ps
  runs_are = ap (λ (k : ℕ). mixtures own modes k m) t.paths ∙ table_runs (paths_of ps) ps own modes m t.programs few

  runs_count : length (mixtures own modes n m) ≡ m
  runs_count = ap length runs_are ∙ length-map ps (run_mixture (paths_of ps)) ∙ sym t.programs.count

  column_is : (k : ℕ) → k < length (paths_of ps) → column_at modes k (length (mixtures own modes n m)) ≡ bits_on (get_or (paths_of ps) k []) ps
  column_is k l = ap (column_at modes k) runs_count ∙ table_column (paths_of ps) ps own modes m t.programs few k l

  tells : (k : ℕ) → k < length (paths_of ps) → (j : ℕ) → j < length ps
      → eqb (position (get_or ps j no_profile).path (paths_of ps)) k ≡ Rattle.lists.specs.Lists.same_list (get_or (paths_of ps) k []) (get_or ps j no_profile).path
  tells k l j h =
      number_tells (paths_of ps) (paths_distinct ps) (get_or ps j no_profile).path
      (every_get_d (λ q. known q.path (paths_of ps)) ps j no_profile h (profiles_known ps)) k l

  abbrev pub rule_at : ℕ → List ℕ
  rule_at = rule_from (take m own) modes (mixtures own modes n m)

  permit_is : (i : ℕ) → i < length (paths_of ps) → rule_at (2 * (0 + i)) ≡ permit_mixtures (paths_of ps) ps (0 + i) (get_or (paths_of ps) i [])
  unfolding rule_from
  permit_is i l =
      let z : 0 + i ≡ i = omega arith in
      let e : 2 * i % 2 ≡ 0 = omega arith in
      let h : 2 * i / 2 ≡ i = omega arith in
      rw (z, eq-eqb (2 * i % 2) 0 e, h, column_is i l, runs_are) (permit_from_lem (paths_of ps) (get_or (paths_of ps) i []) i ps)

  run_is : (i : ℕ) → i < length (paths_of ps) → rule_at (2 * (0 + i) + 1) ≡ run_mixtures (paths_of ps) ps (get_or (paths_of ps) i [])
  unfolding rule_from
  run_is i l =
      let z : 0 + i ≡ i = omega arith in
      let e : (2 * i + 1) % 2 ≡ 0 → ⊥ = λ q. omega arith in
      let h : (2 * i + 1) / 2 ≡ i = omega arith in
      rw (z, ne_eqb ((2 * i + 1) % 2) 0 e, h, column_is i l, runs_are, table_own (paths_of ps) ps own modes m t.programs few)
      (run_from_lem (paths_of ps) (get_or (paths_of ps) i []) i ps (tells i l))

  pub rules_are : forms_from rule_at 0 (2 * n) ≡ rules_of ps
  unfolding rules_of
  rules_are =
      ap (λ (k : ℕ). forms_from rule_at 0 (2 * k)) t.paths ∙ forms_rules rule_at (paths_of ps) ps 0 (paths_of ps) permit_is run_is

  pub tables_policy : table_policy own modes n m ≡ profile_policy ps
  unfolding table_policy profile_policy
  tables_policy =
      λ i. record {
        containers = (ap (λ (k : ℕ). files_from 0 (replicate k []) ++ (initial_process ∷ [])) t.paths ∙ ap (λ (l : List Container). l ++ (initial_process ∷ [])) (sym (files_same 0 (paths_of ps)))) i;
        users = unrestricted_number ∷ [];
        rules = rules_are i;
        owners = (ap (λ (k : ℕ). replicate {A = ℕ} k no_owner) (sym (forms_length rule_at 0 (2 * n)) ∙ ap length rules_are)) i;
      }
