-- What a sound policy owns can be written down, and what is written owns it again.
use Prim.Native.Nat.{ℕ, zero, suc, ◌≤◌, ◌<◌}
use mathlib.Core.Path.{◌≡◌, refl, sym, ap, ◌∙◌}
use mathlib.Core.Bool.{Bool, true, false, cond, ◌&&◌, ◌||◌, true≢false}
use mathlib.Core.List.{List, [], ◌∷◌, ◌++◌, map}
use mathlib.Core.Logic.{⊎_elim}
use native.Mathlib.Omega.{arith}
use lib.Dec.{eqb, ltb}
use lib.ListN.{length, get_or, drop, length-map}
use borrow.Author.Tests.{ltb-true}
use Rattle.lists.proofs.Bools.{and_in, and_0, and_1, or_0, or_1, or_cases}
use Rattle.lists.specs.Lists.{every, known_by}
use Rattle.lists.proofs.Every.{every_0, every_1, every_nil, every_cons, every_imp, every_append, every_left, every_right, every_both, every_map, every_get_d, map_back}
use Rattle.rules.specs.Rules.{normal}
use Rattle.rules.specs.Answers.{data_width}
use Rattle.image.specs.Limits.{container_limit, user_limit, rule_limit, is_file, is_volatile, is_process, unrestricted_number, no_owner, no_atom}
use Rattle.image.specs.Policy.{Container, Policy, unrestricted_rule, rule_at, owner_at, owner_good, named, container_good, rule_good, Sound}
use Rattle.image.specs.Normal.{
  normal_at,
  Use,
  OwnedPlace,
  Owned,
  use_at,
  owned_place,
  owned,
  place_uses,
  uses,
  same_use,
  free_use,
  number_of,
  container_of,
  written_by,
  written_uses,
  policy_of,
}
use Rattle.image.proofs.Numbering.{use_refl, settled, all_settled, numbered_every, numbered_few, number_mixtures, number_owner, number_named}
use Rattle.image.proofs.WrittenMeaning.{container_as, form_good, form_rule, form_normal, normal_unrestricted, named_form, container_named}

-- a rule in normal form with an owner among n users
unfoldable pub use_good : ℕ → Use → Bool
use_good n u = form_good u.mixtures && owner_good n u.owner

-- the shape of a place, with the test whether it is a file apart
abbrev pub owned_as : Bool → OwnedPlace → Bool
owned_as file p =
    cond file
    (ltb p.atom data_width || eqb p.atom no_atom)
    ((is_volatile p.kind || is_process p.kind) && (eqb p.atom no_atom && (same_use p.permit free_use && same_use p.run free_use)))

unfoldable pub shape_owned : OwnedPlace → Bool
shape_owned p = owned_as (is_file p.kind) p

unfoldable pub place_owned : ℕ → OwnedPlace → Bool
place_owned n p = shape_owned p && (use_good n p.permit && use_good n p.run)

-- what can be written down
pub record Ownable (m : Owned) : Type 0 where
  pub few_places : length m.places ≤ container_limit
  pub few_users : length m.users ≤ user_limit
  pub places_good : every (place_owned (length m.users)) m.places ≡ true
  pub users_good : every (use_good (length m.users)) m.users ≡ true
  pub few_rules : length (written_uses m) ≤ rule_limit

-- ---- a rule that is named

nobody_good : (n : ℕ) → owner_good n no_owner ≡ true
unfolding owner_good
nobody_good n = or_1 (ltb no_owner n) true refl

below : (n k : ℕ) → (ltb n k || false) ≡ true → n < k
below n k h = ⊎_elim (λ p. ltb-true n k p) (λ p. absurd (true≢false (sym p))) (or_cases (ltb n k) h)

-- the uses of the rules of a policy, one behind the other
uses_of : List (List ℕ) → List ℕ → List Use
uses_of [] owners = []
uses_of (r ∷ rules) owners = record { owner = get_or owners 0 no_owner; mixtures = normal r } ∷ uses_of rules (drop 1 owners)

uses_length : (rules : List (List ℕ)) (owners : List ℕ) → length (uses_of rules owners) ≡ length rules
unfolding uses_of
uses_length [] owners = refl
uses_length (r ∷ rules) owners = ap suc (uses_length rules (drop 1 owners))

-- behind the first owner
pub after_first : (owners : List ℕ) (n : ℕ) → get_or (drop 1 owners) n no_owner ≡ get_or owners (suc n) no_owner
after_first [] n = refl
after_first (o ∷ owners) n = refl

uses_known : (rules : List (List ℕ)) (owners : List ℕ) (n : ℕ) → n < length rules
    → known_by same_use (record { owner = get_or owners n no_owner; mixtures = normal (get_or rules n []) }) (uses_of rules owners) ≡ true
unfolding uses_of known_by
uses_known [] owners n h = absurd (omega arith)
uses_known (r ∷ rules) owners zero h =
    or_0 (same_use (record { owner = get_or owners 0 no_owner; mixtures = normal r }) (record { owner = get_or owners 0 no_owner; mixtures = normal r })) _
    (use_refl (record { owner = get_or owners 0 no_owner; mixtures = normal r }))
uses_known (r ∷ rules) owners (suc n) h =
    let ih = uses_known rules (drop 1 owners) n (omega arith) in
    let e : get_or (drop 1 owners) n no_owner ≡ get_or owners (suc n) no_owner = after_first owners n in
    or_1 (same_use (record { owner = get_or owners (suc n) no_owner; mixtures = normal (get_or rules n []) }) (record { owner = get_or owners 0 no_owner; mixtures = normal r })) _
    (rw e at ih)

free_itself : same_use (record { owner = no_owner; mixtures = normal unrestricted_rule }) free_use ≡ true
unfolding free_use
free_itself = rw normal_unrestricted (use_refl (record { owner = no_owner; mixtures = unrestricted_rule }))

module _ (p : Policy) (h : Sound p) (n : ℕ) (k : named (length p.rules) n ≡ true) where
  owner_named : owner_good (length p.users) (owner_at p.owners n) ≡ true
  unfolding owner_at named
  owner_named = by (eqb n unrestricted_number) k
    where
      by : (b : Bool) → (ltb n (length p.rules) || b) ≡ true → owner_good (length p.users) (cond b no_owner (get_or p.owners n no_owner)) ≡ true
      by true j = nobody_good (length p.users)
      by false j =
          let l : n < length p.rules = below n (length p.rules) j in
          every_get_d (owner_good (length p.users)) p.owners n no_owner (omega (arith, h.owners_long)) h.owners_good

  use_named : use_good (length p.users) (use_at p n) ≡ true
  unfolding use_good use_at
  use_named = and_in (named_form p.rules h.rules_good n k) owner_named

  -- `use_at p n`, with the test whether n names no rule apart
  abbrev use_as : Bool → Use
  use_as none = record { owner = cond none no_owner (get_or p.owners n no_owner); mixtures = normal (cond none unrestricted_rule (get_or p.rules n [])) }

  use_settled : settled (uses_of p.rules p.owners) (use_at p n) ≡ true
  unfolding settled use_at normal_at rule_at owner_at named
  use_settled = by (eqb n unrestricted_number) k
    where
      by : (b : Bool) → (ltb n (length p.rules) || b) ≡ true
          → (same_use (use_as b) free_use || known_by same_use (use_as b) (uses_of p.rules p.owners)) ≡ true
      by true j =
          or_0 (same_use (record { owner = no_owner; mixtures = normal unrestricted_rule }) free_use)
          (known_by same_use (record { owner = no_owner; mixtures = normal unrestricted_rule }) (uses_of p.rules p.owners)) free_itself
      by false j =
          or_1 (same_use (record { owner = get_or p.owners n no_owner; mixtures = normal (get_or p.rules n []) }) free_use)
          (known_by same_use (record { owner = get_or p.owners n no_owner; mixtures = normal (get_or p.rules n []) }) (uses_of p.rules p.owners))
          (uses_known p.rules p.owners n (below n (length p.rules) j))

-- ---- a container that is good

none_free : (p : Policy) (n : ℕ) → eqb n unrestricted_number ≡ true → same_use (use_at p n) free_use ≡ true
unfolding use_at normal_at rule_at owner_at free_use
none_free p n h = rw (h, normal_unrestricted) (use_refl (record { owner = no_owner; mixtures = unrestricted_rule }))

container_shape : (p : Policy) (n : ℕ) (c : Container) → container_good n c ≡ true → shape_owned (owned_place p c) ≡ true
unfolding container_good shape_owned owned_place
container_shape p n c = by (is_file c.kind)
  where
    by : (b : Bool) → container_as b n c ≡ true → owned_as b (owned_place p c) ≡ true
    by true k = and_0 (ltb c.atom data_width || eqb c.atom no_atom) (named n c.permit && named n c.run) k
    by false k =
        let g : (eqb c.atom no_atom && (eqb c.permit unrestricted_number && eqb c.run unrestricted_number)) ≡ true = and_1 (is_volatile c.kind || is_process c.kind) k in
        let f : (eqb c.permit unrestricted_number && eqb c.run unrestricted_number) ≡ true = and_1 (eqb c.atom no_atom) g in
        and_in (and_0 (is_volatile c.kind || is_process c.kind) (eqb c.atom no_atom && (eqb c.permit unrestricted_number && eqb c.run unrestricted_number)) k)
        (and_in (and_0 (eqb c.atom no_atom) (eqb c.permit unrestricted_number && eqb c.run unrestricted_number) g)
        (and_in (none_free p c.permit (and_0 (eqb c.permit unrestricted_number) (eqb c.run unrestricted_number) f))
        (none_free p c.run (and_1 (eqb c.permit unrestricted_number) f))))

-- what holds of each named rule holds of each rule in use
uses_every : (p : Policy) (f : Use → Bool) → ((n : ℕ) → named (length p.rules) n ≡ true → f (use_at p n) ≡ true) → (cs : List Container)
    → every (container_good (length p.rules)) cs ≡ true → every f (place_uses (map (owned_place p) cs)) ≡ true
unfolding place_uses owned_place
uses_every p f i [] h = every_nil f
uses_every p f i (c ∷ cs) h =
    let g = container_named (length p.rules) c (every_0 (container_good (length p.rules)) c cs h) in
    every_cons f (use_at p c.permit) (use_at p c.run ∷ place_uses (map (owned_place p) cs)) (i c.permit g.0)
    (every_cons f (use_at p c.run) (place_uses (map (owned_place p) cs)) (i c.run g.1)
    (uses_every p f i cs (every_1 (container_good (length p.rules)) c cs h)))

module _ (p : Policy) (h : Sound p) where
  container_owned : (c : Container) → container_good (length p.rules) c ≡ true → place_owned (length p.users) (owned_place p c) ≡ true
  unfolding place_owned owned_place
  container_owned c k =
      let g = container_named (length p.rules) c k in
      and_in (container_shape p (length p.rules) c k) (and_in (use_named p h c.permit g.0) (use_named p h c.run g.1))

  all_used : every (settled (uses_of p.rules p.owners)) (uses (owned p)) ≡ true
  unfolding uses owned
  all_used =
      every_append (settled (uses_of p.rules p.owners)) (place_uses (map (owned_place p) p.containers)) (map (use_at p) p.users)
      (uses_every p (settled (uses_of p.rules p.owners)) (λ n k. use_settled p h n k) p.containers h.containers_good)
      (every_map (named (length p.rules)) (settled (uses_of p.rules p.owners)) (use_at p) p.users (λ n k. use_settled p h n k) h.users_good)

  -- no more rules are written than there were
  pub written_few : length (written_uses (owned p)) ≤ length p.rules
  unfolding written_uses
  written_few = omega (arith, numbered_few (uses (owned p)) (uses_of p.rules p.owners) all_used, uses_length p.rules p.owners)

  owned_users : length (owned p).users ≡ length p.users
  unfolding owned
  owned_users = length-map p.users (use_at p)

  places_owned : every (place_owned (length p.users)) (owned p).places ≡ true
  unfolding owned
  places_owned = every_map (container_good (length p.rules)) (place_owned (length p.users)) (owned_place p) p.containers container_owned h.containers_good

  users_owned : every (use_good (length p.users)) (owned p).users ≡ true
  unfolding owned
  users_owned = every_map (named (length p.rules)) (use_good (length p.users)) (use_at p) p.users (λ n k. use_named p h n k) h.users_good

  pub owned_ownable : Ownable (owned p)
  owned_ownable =
      record {
        few_places = unfold owned in omega (arith, length-map p.containers (owned_place p), h.few_containers);
        few_users = omega (arith, owned_users, h.few_users);
        places_good = rw owned_users places_owned;
        users_good = rw owned_users users_owned;
        few_rules = omega (arith, written_few, h.few_rules);
      }

-- ---- what is written

place_settled : List Use → OwnedPlace → Bool
place_settled t p = settled t p.permit && settled t p.run

places_settled : (t : List Use) (ps : List OwnedPlace) → every (settled t) (place_uses ps) ≡ true → every (place_settled t) ps ≡ true
unfolding place_uses place_settled
places_settled t [] h = every_nil (place_settled t)
places_settled t (p ∷ ps) h =
    let k : every (settled t) (p.run ∷ place_uses ps) ≡ true = every_1 (settled t) p.permit (p.run ∷ place_uses ps) h in
    every_cons (place_settled t) p ps
    (and_in (every_0 (settled t) p.permit (p.run ∷ place_uses ps) h) (every_0 (settled t) p.run (place_uses ps) k))
    (places_settled t ps (every_1 (settled t) p.run (place_uses ps) k))

-- what holds of each place's rules holds of the rules in use
places_uses : (f : Use → Bool) (ps : List OwnedPlace) → every (λ p. f p.permit && f p.run) ps ≡ true → every f (place_uses ps) ≡ true
unfolding place_uses
places_uses f [] h = every_nil f
places_uses f (p ∷ ps) h =
    let k : (f p.permit && f p.run) ≡ true = every_0 (λ p. f p.permit && f p.run) p ps h in
    every_cons f p.permit (p.run ∷ place_uses ps) (and_0 (f p.permit) (f p.run) k)
    (every_cons f p.run (place_uses ps) (and_1 (f p.permit) k) (places_uses f ps (every_1 (λ p. f p.permit && f p.run) p ps h)))

use_form : (n : ℕ) (u : Use) → use_good n u ≡ true → form_good u.mixtures ≡ true
unfolding use_good
use_form n u h = and_0 (form_good u.mixtures) (owner_good n u.owner) h

use_owner : (n : ℕ) (u : Use) → use_good n u ≡ true → owner_good n u.owner ≡ true
unfolding use_good
use_owner n u h = and_1 (form_good u.mixtures) h

free_number : (t : List Use) (u : Use) → same_use u free_use ≡ true → eqb (number_of t u) unrestricted_number ≡ true
unfolding number_of
free_number t u h = rw h

module _ (n : ℕ) (t : List Use) (few : length t ≤ unrestricted_number) (m : Owned) where
  use_back : (u : Use) → (use_good n u && settled t u) ≡ true → use_at (written_by t m) (number_of t u) ≡ u
  unfolding use_at written_by normal_at
  use_back u h =
      let g : use_good n u ≡ true = and_0 (use_good n u) (settled t u) h in
      let s : settled t u ≡ true = and_1 (use_good n u) h in
      let e : normal (rule_at (map (λ u. u.mixtures) t) (number_of t u)) ≡ u.mixtures = ap normal (number_mixtures t few u s) ∙ form_normal u.mixtures (use_form n u g) in
      let f : owner_at (map (λ u. u.owner) t) (number_of t u) ≡ u.owner = number_owner t few u s in
      λ i. record { owner = f i; mixtures = e i }

  place_back : (p : OwnedPlace) → (place_owned n p && place_settled t p) ≡ true → owned_place (written_by t m) (container_of t p) ≡ p
  unfolding owned_place container_of place_owned place_settled
  place_back p h =
      let f : (use_good n p.permit && use_good n p.run) ≡ true = and_1 (shape_owned p) (and_0 (place_owned n p) (place_settled t p) h) in
      let s : (settled t p.permit && settled t p.run) ≡ true = and_1 (place_owned n p) h in
      let e : use_at (written_by t m) (number_of t p.permit) ≡ p.permit =
      use_back p.permit (and_in (and_0 (use_good n p.permit) (use_good n p.run) f) (and_0 (settled t p.permit) (settled t p.run) s)) in
      let g : use_at (written_by t m) (number_of t p.run) ≡ p.run = use_back p.run (and_in (and_1 (use_good n p.permit) f) (and_1 (settled t p.permit) s)) in
      λ i. record { kind = p.kind; atom = p.atom; permit = e i; run = g i }

  place_container : (p : OwnedPlace) → (place_owned n p && place_settled t p) ≡ true → container_good (length t) (container_of t p) ≡ true
  unfolding container_good container_of place_owned shape_owned place_settled
  place_container p h = by (is_file p.kind) (and_0 (shape_owned p) (use_good n p.permit && use_good n p.run) (and_0 (place_owned n p) (place_settled t p) h)) (and_1 (place_owned n p) h)
    where
      by : (b : Bool) → owned_as b p ≡ true → (settled t p.permit && settled t p.run) ≡ true → container_as b (length t) (container_of t p) ≡ true
      by true k s = and_in k (and_in (number_named t few p.permit (and_0 (settled t p.permit) (settled t p.run) s)) (number_named t few p.run (and_1 (settled t p.permit) s)))
      by false k s =
          let g : (eqb p.atom no_atom && (same_use p.permit free_use && same_use p.run free_use)) ≡ true = and_1 (is_volatile p.kind || is_process p.kind) k in
          let f : (same_use p.permit free_use && same_use p.run free_use) ≡ true = and_1 (eqb p.atom no_atom) g in
          and_in (and_0 (is_volatile p.kind || is_process p.kind) (eqb p.atom no_atom && (same_use p.permit free_use && same_use p.run free_use)) k)
          (and_in (and_0 (eqb p.atom no_atom) (same_use p.permit free_use && same_use p.run free_use) g)
          (and_in (free_number t p.permit (and_0 (same_use p.permit free_use) (same_use p.run free_use) f)) (free_number t p.run (and_1 (same_use p.permit free_use) f))))

module _ (m : Owned) (h : Ownable m) where
  n : ℕ
  n = length m.users

  t : List Use
  t = written_uses m

  n_few : n ≤ user_limit
  unfolding n
  n_few = h.few_users

  t_few : length t ≤ unrestricted_number
  unfolding t
  t_few = omega (arith, h.few_rules)

  uses_settled : every (settled t) (place_uses m.places ++ m.users) ≡ true
  unfolding t written_uses uses
  uses_settled = all_settled [] (uses m)

  places_both : every (λ p. place_owned n p && place_settled t p) m.places ≡ true
  unfolding n
  places_both = every_both (place_owned n) (place_settled t) m.places h.places_good (places_settled t m.places (every_left (settled t) (place_uses m.places) m.users uses_settled))

  users_both : every (λ u. use_good n u && settled t u) m.users ≡ true
  unfolding n
  users_both = every_both (use_good n) (settled t) m.users h.users_good (every_right (settled t) (place_uses m.places) m.users uses_settled)

  uses_good : every (use_good n) (uses m) ≡ true
  unfolding uses n
  uses_good =
      every_append (use_good n) (place_uses m.places) m.users
      (places_uses (use_good n) m.places (every_imp (place_owned n) (λ p. use_good n p.permit && use_good n p.run) m.places both h.places_good))
      h.users_good
    where
      both : (p : OwnedPlace) → place_owned n p ≡ true → (use_good n p.permit && use_good n p.run) ≡ true
      both p k = unfold place_owned in and_1 (shape_owned p) k

  t_good : every (use_good n) t ≡ true
  unfolding t written_uses
  t_good = numbered_every (use_good n) [] (uses m) (every_nil (use_good n)) uses_good

  t_rules : length (map (λ u. u.mixtures) t) ≡ length t
  t_rules = length-map t (λ u. u.mixtures)

  t_users : length (map (number_of t) m.users) ≡ n
  unfolding n
  t_users = length-map m.users (number_of t)

  containers_good_lem : every (container_good (length t)) (map (container_of t) m.places) ≡ true
  containers_good_lem = every_map (λ p. place_owned n p && place_settled t p) (container_good (length t)) (container_of t) m.places (place_container n t t_few m) places_both

  users_good_lem : every (named (length t)) (map (number_of t) m.users) ≡ true
  users_good_lem = every_map (λ u. use_good n u && settled t u) (named (length t)) (number_of t) m.users (λ u k. number_named t t_few u (and_1 (use_good n u) k)) users_both

  owners_good_lem : every (owner_good n) (map (λ u. u.owner) t) ≡ true
  owners_good_lem = every_map (use_good n) (owner_good n) (λ u. u.owner) t (use_owner n) t_good

  written_sound : Sound (written_by t m)
  unfolding written_by
  written_sound =
      record {
        few_containers = omega (arith, length-map m.places (container_of t), h.few_places);
        few_users = omega (arith, t_users, n_few);
        few_rules = omega (arith, t_rules, t_short);
        rules_good = every_map (use_good n) rule_good (λ u. u.mixtures) t (λ u k. form_rule u.mixtures (use_form n u k)) t_good;
        containers_good = rw t_rules containers_good_lem;
        users_good = rw t_rules users_good_lem;
        owners_long = omega (arith, t_rules, length-map t (λ u. u.owner));
        owners_good = rw t_users owners_good_lem;
      }
    where
      t_short : length t ≤ rule_limit
      t_short = unfold t in h.few_rules

  written_owns : owned (written_by t m) ≡ m
  unfolding owned written_by
  written_owns =
      let w = written_by t m in
      let e = map_back (λ p. place_owned n p && place_settled t p) (container_of t) (owned_place w) m.places (place_back n t t_few m) places_both in
      let f = map_back (λ u. use_good n u && settled t u) (number_of t) (use_at w) m.users (use_back n t t_few m) users_both in
      λ i. record { places = e i; users = f i }

  pub policy_sound : Sound (policy_of m)
  unfolding policy_of t
  policy_sound = written_sound

  pub policy_owns : owned (policy_of m) ≡ m
  unfolding policy_of t
  policy_owns = written_owns
