-- What the policy of profiles means, and its normal image.
use Prim.Native.Nat.{ℕ, suc, ◌+◌, ◌*◌, ◌≤◌, ◌<◌}
use native.Mathlib.Omega.{arith}
use mathlib.Core.Path.{◌≡◌, refl, sym, ap, ap₂, ◌∙◌}
use mathlib.Core.Bool.{true, false}
use mathlib.Core.List.{List, [], ◌∷◌, ◌++◌, map, map-append}
use lib.Dec.{eqb}
use lib.ListN.{length, get_or, drop}
use lib.Seq.{get_or-drop, drop-drop}
use borrow.Author.Tests.{ne_eqb}
use Rattle.lists.specs.Lists.{every}
use Rattle.rules.specs.Rules.{normal}
use Rattle.rules.specs.Answers.{data_width}
use Rattle.rules.proofs.RuleLaws.{normal_normal}
use Rattle.fields.specs.Bytes.{Bytes}
use Rattle.image.specs.Limits.{file_kind, process_kind, no_atom, unrestricted_number, no_owner}
use Rattle.image.specs.Policy.{unrestricted_rule, rule_at, Sound}
use Rattle.image.specs.Image.{policy_in, check_of}
use Rattle.image.specs.Normal.{Place, process_place, normal_at, place_of, meaning, Owned, owned, owners_at, policy_of, normal_policy, encode, normal_image}
use Rattle.image.proofs.Encode.{read_encode, encode_bytes}
use Rattle.image.proofs.WrittenMeaning.{normal_unrestricted}
use Rattle.image.proofs.WrittenOwners.{Ownable, owned_ownable, policy_sound, policy_owns}
use Rattle.image.proofs.OwnerLaws.{owned_parts, none_used, none_written}
use Rattle.profiles.specs.Profiles.{Profile}
use Rattle.confinement.specs.Confinement.{paths_of, permit_mixtures, run_mixtures, rules_from, rules_of, files_from, initial_process, profile_policy}
use Rattle.confinement.specs.Images.{limits_good}
use Rattle.confinement.proofs.PolicyLaws.{few_paths, profile_nobody, profile_sound}

-- ---- the places of a policy

-- of the paths from the k-th on: a file with the path's atom, its permit rule and its run rule
abbrev pub file_places : List (List ℕ) → List Profile → ℕ → List (List ℕ) → List Place
file_places ns ps k [] = []
file_places ns ps k (q ∷ qs) =
    record { kind = file_kind; atom = k; permit = normal (permit_mixtures ns ps k q); run = normal (run_mixtures ns ps q) } ∷ file_places ns ps (suc k) qs

-- a rule with its number
rule_at_lem : (rules : List (List ℕ)) (n i : ℕ) (r : List ℕ) → n + i < unrestricted_number → get_or (drop n rules) i [] ≡ normal r → normal_at rules (n + i) ≡ normal r
unfolding normal_at rule_at
rule_at_lem rules n i r l h =
    let e : eqb (n + i) unrestricted_number ≡ false = ne_eqb (n + i) unrestricted_number (λ q. omega arith) in
    rw e (ap normal (sym (get_or-drop n rules i []) ∙ h) ∙ normal_normal r)

module _ (ns : List (List ℕ)) (ps : List Profile) (rules : List (List ℕ)) where
  -- the rules from the 2 k-th on are those of the paths from the k-th on
  file_places_lem : (k : ℕ) (qs : List (List ℕ)) → k + length qs ≤ data_width → drop (2 * k) rules ≡ rules_from ns ps k qs → map (place_of rules) (files_from k qs) ≡ file_places ns ps k qs
  unfolding rules_from files_from place_of
  file_places_lem k [] l h = refl
  file_places_lem k (q ∷ qs) l h = ap₂ ◌∷◌ here (file_places_lem (suc k) qs (omega arith) rest)
    where
      permit : normal_at rules (2 * k) ≡ normal (permit_mixtures ns ps k q)
      permit =
          let z : 2 * k + 0 ≡ 2 * k = omega arith in
          ap (normal_at rules) (sym z) ∙ rule_at_lem rules (2 * k) 0 (permit_mixtures ns ps k q) (omega arith) (ap (λ (l : List (List ℕ)). get_or l 0 []) h)

      run : normal_at rules (2 * k + 1) ≡ normal (run_mixtures ns ps q)
      run = rule_at_lem rules (2 * k) 1 (run_mixtures ns ps q) (omega arith) (ap (λ (l : List (List ℕ)). get_or l 1 []) h)

      here : ◌≡◌ {A = Place} (record { kind = file_kind; atom = k; permit = normal_at rules (2 * k); run = normal_at rules (2 * k + 1) })
          (record { kind = file_kind; atom = k; permit = normal (permit_mixtures ns ps k q); run = normal (run_mixtures ns ps q) })
      here = λ i. record { kind = file_kind; atom = k; permit = permit i; run = run i }

      rest : drop (2 * suc k) rules ≡ rules_from ns ps (suc k) qs
      rest =
          let e : 2 * suc k ≡ 2 * k + 2 = omega arith in
          ap (λ (n : ℕ). drop n rules) e ∙ sym (drop-drop 2 (2 * k) rules) ∙ ap (λ (l : List (List ℕ)). drop 2 l) h

unrestricted_at : (rules : List (List ℕ)) → normal_at rules unrestricted_number ≡ unrestricted_rule
unfolding normal_at rule_at
unrestricted_at rules = normal_unrestricted

module _ (ps : List Profile) (ok : limits_good ps ≡ true) where
  -- ---- what it means

  stated : meaning (profile_policy ps) ≡ record { places = file_places (paths_of ps) ps 0 (paths_of ps) ++ (process_place ∷ []); users = unrestricted_rule ∷ [] }
  unfolding meaning profile_policy
  stated =
      λ i. record {
        places =
            (map-append (place_of (rules_of ps)) (files_from 0 (paths_of ps)) (initial_process ∷ [])
            ∙ ap₂ ◌++◌ (file_places_lem (paths_of ps) ps (rules_of ps) 0 (paths_of ps) (omega (arith, few_paths ps ok)) (unfold rules_of in refl)) (ap (λ (p : Place). p ∷ []) process)) i;
        users = unrestricted_at (rules_of ps) i ∷ [];
      }
    where
      process : place_of (rules_of ps) initial_process ≡ process_place
      process =
          unfold place_of initial_process in
          (λ i. record { kind = process_kind; atom = no_atom; permit = unrestricted_at (rules_of ps) i; run = unrestricted_at (rules_of ps) i })

  -- ---- its normal image

  ownable : Ownable (owned (profile_policy ps))
  ownable = owned_ownable (profile_policy ps) (profile_sound ps ok)

  normal_sound : Sound (normal_policy (profile_policy ps))
  normal_sound = unfold normal_policy in policy_sound (owned (profile_policy ps)) ownable

  same_owned : owned (normal_policy (profile_policy ps)) ≡ owned (profile_policy ps)
  same_owned = unfold normal_policy in policy_owns (owned (profile_policy ps)) ownable

  same_meaning : meaning (normal_policy (profile_policy ps)) ≡ meaning (profile_policy ps)
  same_meaning = ((owned_parts (normal_policy (profile_policy ps)) (profile_policy ps)).0 same_owned).0

  pub profile_read : (check_of (normal_image (profile_policy ps)) ≡ 0) × (policy_in (normal_image (profile_policy ps)) ≡ normal_policy (profile_policy ps))
  profile_read = unfold normal_image in read_encode (normal_policy (profile_policy ps)) normal_sound

  pub profile_bytes : Bytes (normal_image (profile_policy ps))
  profile_bytes = unfold normal_image in encode_bytes (normal_policy (profile_policy ps))

  pub profile_normal : normal_image (normal_policy (profile_policy ps)) ≡ normal_image (profile_policy ps)
  profile_normal = unfold normal_image normal_policy in ap (λ (m : Owned). encode (policy_of m)) same_owned

  -- no rule of it has an owner
  pub profile_unowned : every (eqb no_owner) (policy_in (normal_image (profile_policy ps))).owners ≡ true
  profile_unowned = rw profile_read.1 (none_written (profile_policy ps) (profile_nobody ps))

  pub profile_owners : every (eqb no_owner) (owners_at (policy_in (normal_image (profile_policy ps)))) ≡ true
  profile_owners = none_used (policy_in (normal_image (profile_policy ps))) profile_unowned

  pub profile_means : meaning (normal_policy (profile_policy ps))
      ≡ record { places = file_places (paths_of ps) ps 0 (paths_of ps) ++ (process_place ∷ []); users = unrestricted_rule ∷ [] }
  profile_means = same_meaning ∙ stated
