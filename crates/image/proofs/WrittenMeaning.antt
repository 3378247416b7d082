-- What a sound policy means: rules in normal form, and nothing but them at what has no rule of its own.
use Prim.Native.Nat.{ℕ, ◌-◌, ◌^◌, ◌≤◌}
use mathlib.Core.Path.{◌≡◌, refl, sym}
use mathlib.Core.Bool.{Bool, true, false, cond, ◌&&◌, ◌||◌, true≢false}
use mathlib.Core.List.{List, [], ◌∷◌}
use mathlib.Core.Logic.{⊎_elim}
use native.Mathlib.Omega.{arith}
use lib.Dec.{eqb, leb, ltb}
use lib.ListN.{length, get_or, length-map}
use borrow.Author.Tests.{ltb-true, leb-true, le-leb}
use Rattle.lists.proofs.Bools.{and_in, and_0, and_1, or_1, or_cases}
use Rattle.lists.proofs.Elem.{elem_here, elem_there}
use Rattle.rules.proofs.RuleLaws.{normal_among, normal_length, normal_normal}
use Rattle.rules.proofs.MeetAll.{normal_one}
use Rattle.lists.specs.Lists.{elem, same_list, every}
use Rattle.rules.specs.Rules.{normal, unrestricted}
use Rattle.lists.proofs.Same.{same_refl, same_eq}
use Rattle.rules.specs.Answers.{data_width, tag_width, mixture_limit}
use Rattle.image.specs.Limits.{container_limit, user_limit, is_file, is_volatile, is_process, unrestricted_number, no_atom}
use Rattle.image.specs.Policy.{Container, Policy, unrestricted_rule, rule_at, named, container_good, rule_good, Sound}
use Rattle.image.specs.Normal.{Place, Meaning, normal_at, place_of, meaning}
use Rattle.lists.proofs.Every.{every_elem, every_nil, every_cons, every_map, every_get_d}

-- a rule of at most 8 mixtures of 64 bits in normal form
unfoldable pub form_good : List ℕ → Bool
form_good r = rule_good r && same_list (normal r) r

-- the shape of a place, with the test whether it is a file apart
abbrev pub shape_as : Bool → Place → Bool
shape_as file p =
    cond file
    (ltb p.atom data_width || eqb p.atom no_atom)
    ((is_volatile p.kind || is_process p.kind) && (eqb p.atom no_atom && (same_list p.permit unrestricted_rule && same_list p.run unrestricted_rule)))

unfoldable pub shape_good : Place → Bool
shape_good p = shape_as (is_file p.kind) p

-- `container_good n c`, with the test whether it is a file apart
abbrev pub container_as : Bool → ℕ → Container → Bool
container_as file n c =
    cond file
    ((ltb c.atom data_width || eqb c.atom no_atom) && (named n c.permit && named n c.run))
    ((is_volatile c.kind || is_process c.kind) && (eqb c.atom no_atom && (eqb c.permit unrestricted_number && eqb c.run unrestricted_number)))

unfoldable pub place_good : Place → Bool
place_good p = shape_good p && (form_good p.permit && form_good p.run)

-- a meaning that a session can start with
pub record Encodable (m : Meaning) : Type 0 where
  pub few_places : length m.places ≤ container_limit
  pub few_users : length m.users ≤ user_limit
  pub places_good : every place_good m.places ≡ true
  pub users_good : every form_good m.users ≡ true

-- ---- the normal form of a good rule

elem_every : (f : ℕ → Bool) (r : List ℕ) → ((m : ℕ) → elem m r ≡ true → f m ≡ true) → every f r ≡ true
elem_every f [] h = every_nil f
elem_every f (n ∷ r) h = every_cons f n r (h n (elem_here n r)) (elem_every f r (λ m e. h m (elem_there m n r e)))

pub normal_good : (r : List ℕ) → rule_good r ≡ true → form_good (normal r) ≡ true
unfolding form_good rule_good
normal_good r h =
    and_in
    (and_in
    (le-leb (length (normal r)) mixture_limit (omega (arith, normal_length r, leb-true (length r) mixture_limit (and_0 (leb (length r) mixture_limit) (every (λ m. ltb m (2 ^ tag_width)) r) h))))
    (elem_every (λ m. ltb m (2 ^ tag_width)) (normal r) (λ m e. every_elem (λ m. ltb m (2 ^ tag_width)) r m (and_1 (leb (length r) mixture_limit) h) (normal_among r m e))))
    (rw (normal_normal r) (same_refl (normal r)))

pub normal_unrestricted : normal unrestricted_rule ≡ unrestricted_rule
unfolding unrestricted_rule unrestricted
normal_unrestricted = normal_one (2 ^ tag_width - 1)

unrestricted_good : rule_good unrestricted_rule ≡ true
unfolding rule_good unrestricted_rule unrestricted every
unrestricted_good = refl

pub form_rule : (r : List ℕ) → form_good r ≡ true → rule_good r ≡ true
unfolding form_good
form_rule r h = and_0 (rule_good r) (same_list (normal r) r) h

pub form_normal : (r : List ℕ) → form_good r ≡ true → normal r ≡ r
unfolding form_good
form_normal r h = same_eq (normal r) r (and_1 (rule_good r) h)

-- ---- a rule that is named

module _ (rules : List (List ℕ)) (good : every rule_good rules ≡ true) (n : ℕ) (h : named (length rules) n ≡ true) where
  pub named_form : form_good (normal_at rules n) ≡ true
  unfolding normal_at rule_at named
  named_form = by (eqb n unrestricted_number) refl h
    where
      by : (b : Bool) → eqb n unrestricted_number ≡ b → (ltb n (length rules) || b) ≡ true → form_good (normal (cond b unrestricted_rule (get_or rules n []))) ≡ true
      by true e k = normal_good unrestricted_rule unrestricted_good
      by false e k =
          normal_good (get_or rules n []) (every_get_d rule_good rules n [] (⊎_elim (λ p. ltb-true n (length rules) p) (λ p. absurd (true≢false (sym p))) (or_cases (ltb n (length rules)) k)) good)

-- ---- a container that is good

named_none : (n r : ℕ) → eqb r unrestricted_number ≡ true → named n r ≡ true
unfolding named
named_none n r h = or_1 (ltb r n) (eqb r unrestricted_number) h

pub container_named : (n : ℕ) (c : Container) → container_good n c ≡ true → (named n c.permit ≡ true) × (named n c.run ≡ true)
unfolding container_good
container_named n c = by (is_file c.kind)
  where
    by : (b : Bool) → container_as b n c ≡ true → (named n c.permit ≡ true) × (named n c.run ≡ true)
    by true k =
        let g : (named n c.permit && named n c.run) ≡ true = and_1 (ltb c.atom data_width || eqb c.atom no_atom) k in
        (and_0 (named n c.permit) (named n c.run) g, and_1 (named n c.permit) g)
    by false k =
        let g : (eqb c.permit unrestricted_number && eqb c.run unrestricted_number) ≡ true = and_1 (eqb c.atom no_atom) (and_1 (is_volatile c.kind || is_process c.kind) k) in
        (named_none n c.permit (and_0 (eqb c.permit unrestricted_number) (eqb c.run unrestricted_number) g), named_none n c.run (and_1 (eqb c.permit unrestricted_number) g))

none_unrestricted : (rules : List (List ℕ)) (n : ℕ) → eqb n unrestricted_number ≡ true → same_list (normal_at rules n) unrestricted_rule ≡ true
unfolding normal_at rule_at
none_unrestricted rules n h = rw (h, normal_unrestricted) (same_refl unrestricted_rule)

container_shape : (rules : List (List ℕ)) (c : Container) → container_good (length rules) c ≡ true → shape_good (place_of rules c) ≡ true
unfolding container_good shape_good place_of
container_shape rules c = by (is_file c.kind)
  where
    n : ℕ
    n = length rules

    by : (b : Bool) → container_as b n c ≡ true → shape_as b (place_of rules c) ≡ true
    by true k = and_0 (ltb c.atom data_width || eqb c.atom no_atom) (named n c.permit && named n c.run) k
    by false k =
        let g : (eqb c.atom no_atom && (eqb c.permit unrestricted_number && eqb c.run unrestricted_number)) ≡ true = and_1 (is_volatile c.kind || is_process c.kind) k in
        let f : (eqb c.permit unrestricted_number && eqb c.run unrestricted_number) ≡ true = and_1 (eqb c.atom no_atom) g in
        and_in (and_0 (is_volatile c.kind || is_process c.kind) (eqb c.atom no_atom && (eqb c.permit unrestricted_number && eqb c.run unrestricted_number)) k)
        (and_in (and_0 (eqb c.atom no_atom) (eqb c.permit unrestricted_number && eqb c.run unrestricted_number) g)
        (and_in (none_unrestricted rules c.permit (and_0 (eqb c.permit unrestricted_number) (eqb c.run unrestricted_number) f))
        (none_unrestricted rules c.run (and_1 (eqb c.permit unrestricted_number) f))))

container_place : (rules : List (List ℕ)) → every rule_good rules ≡ true → (c : Container) → container_good (length rules) c ≡ true → place_good (place_of rules c) ≡ true
unfolding place_good place_of
container_place rules good c h =
    let g = container_named (length rules) c h in
    and_in (container_shape rules c h) (and_in (named_form rules good c.permit g.0) (named_form rules good c.run g.1))

module _ (p : Policy) (h : Sound p) where
  pub meaning_encodable : Encodable (meaning p)
  meaning_encodable =
      record {
        few_places = unfold meaning in omega (arith, length-map p.containers (place_of p.rules), h.few_containers);
        few_users = unfold meaning in omega (arith, length-map p.users (normal_at p.rules), h.few_users);
        places_good = unfold meaning in every_map (container_good (length p.rules)) place_good (place_of p.rules) p.containers (container_place p.rules h.rules_good) h.containers_good;
        users_good = unfold meaning in every_map (named (length p.rules)) form_good (normal_at p.rules) p.users (λ n k. named_form p.rules h.rules_good n k) h.users_good;
      }

pub container_atom : (n : ℕ) (c : Container) → container_good n c ≡ true → (ltb c.atom data_width || eqb c.atom no_atom) ≡ true
unfolding container_good
container_atom n c = by (is_file c.kind)
  where
    by : (b : Bool) → container_as b n c ≡ true → (ltb c.atom data_width || eqb c.atom no_atom) ≡ true
    by true k = and_0 (ltb c.atom data_width || eqb c.atom no_atom) (named n c.permit && named n c.run) k
    by false k =
        or_1 (ltb c.atom data_width) (eqb c.atom no_atom)
        (and_0 (eqb c.atom no_atom) (eqb c.permit unrestricted_number && eqb c.run unrestricted_number) (and_1 (is_volatile c.kind || is_process c.kind) k))
