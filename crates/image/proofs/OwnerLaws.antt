-- What a policy owns is what it means and the owner at every use: each of the two tells a part, both together the whole.
use Prim.Native.Nat.{ℕ, zero, suc}
use mathlib.Core.Path.{◌≡◌, refl, sym, ap, ap₂, ◌∙◌}
use mathlib.Core.Bool.{Bool, true, false, cond}
use mathlib.Core.List.{List, [], ◌∷◌, ◌++◌, map}
use mathlib.Core.Logic.{◌↔◌}
use native.Mathlib.Omega.{arith}
use lib.Dec.{eqb}
use lib.ListN.{get_or}
use borrow.Author.Tests.{eq-eqb, eqb-true}
use Rattle.lists.specs.Lists.{every}
use Rattle.lists.proofs.Every.{every_0, every_1, every_nil, every_cons, every_append, every_map}
use Rattle.image.specs.Limits.{unrestricted_number, no_owner}
use Rattle.image.specs.Policy.{Container, Policy, owner_at}
use Rattle.image.specs.Normal.{Place, Meaning, normal_at, place_of, meaning, Use, OwnedPlace, Owned, use_at, owned_place}
use Rattle.image.specs.Normal.{owned, place_uses, uses, owners_at, written_by, written_uses, policy_of, normal_policy}
use Rattle.image.proofs.Numbering.{numbered_every}

-- ---- without the owners

unfoldable pub bare_place : OwnedPlace → Place
bare_place p = record { kind = p.kind; atom = p.atom; permit = p.permit.mixtures; run = p.run.mixtures }

unfoldable pub bare_of : Owned → Meaning
bare_of m = record { places = map bare_place m.places; users = map (λ u. u.mixtures) m.users }

places_bare : (p : Policy) (cs : List Container) → map (place_of p.rules) cs ≡ map bare_place (map (owned_place p) cs)
unfolding place_of bare_place owned_place use_at
places_bare p [] = refl
places_bare p (c ∷ cs) = ap (λ (l : List Place). place_of p.rules c ∷ l) (places_bare p cs)

users_bare : (p : Policy) (us : List ℕ) → map (normal_at p.rules) us ≡ map (λ u. u.mixtures) (map (use_at p) us)
unfolding use_at
users_bare p [] = refl
users_bare p (n ∷ us) = ap (λ (l : List (List ℕ)). normal_at p.rules n ∷ l) (users_bare p us)

-- the meaning of a policy is what it owns without the owners
pub meaning_owned : (p : Policy) → meaning p ≡ bare_of (owned p)
unfolding meaning bare_of owned
meaning_owned p =
    let e : map (place_of p.rules) p.containers ≡ map bare_place (map (owned_place p) p.containers) = places_bare p p.containers in
    let f : map (normal_at p.rules) p.users ≡ map (λ u. u.mixtures) (map (use_at p) p.users) = users_bare p p.users in
    λ i. record { places = e i; users = f i }

-- ---- mixtures and owners together

use_apart : (u v : Use) → u.mixtures ≡ v.mixtures → u.owner ≡ v.owner → u ≡ v
use_apart u v e f = λ i. record { owner = f i; mixtures = e i }

cons_head : {A : Type 0} {x y : A} {l k : List A} → x ∷ l ≡ y ∷ k → x ≡ y
cons_head e = cc

cons_tail : {A : Type 0} {x y : A} {l k : List A} → x ∷ l ≡ y ∷ k → l ≡ k
cons_tail e = cc

nil_cons : {A : Type 0} {X : Type 0} {x : A} {l : List A} → ◌≡◌ {A = List A} [] (x ∷ l) → X
nil_cons e = let z : ◌≡◌ {A = ℕ} 0 1 = cc in absurd (omega arith)

-- the uses of users, by mixtures and owners
users_apart : (us vs : List Use) → map (λ u. u.mixtures) us ≡ map (λ u. u.mixtures) vs → map (λ u. u.owner) us ≡ map (λ u. u.owner) vs → us ≡ vs
users_apart [] [] e f = refl
users_apart [] (v ∷ vs) e f = nil_cons e
users_apart (u ∷ us) [] e f = nil_cons (sym e)
users_apart (u ∷ us) (v ∷ vs) e f = ap₂ ◌∷◌ (use_apart u v (cons_head e) (cons_head f)) (users_apart us vs (cons_tail e) (cons_tail f))

place_apart : (p q : OwnedPlace) → bare_place p ≡ bare_place q → p.permit.owner ≡ q.permit.owner → p.run.owner ≡ q.run.owner → p ≡ q
unfolding bare_place
place_apart p q e f g =
    let a : p.permit ≡ q.permit = use_apart p.permit q.permit (ap (λ (x : Place). x.permit) e) f in
    let b : p.run ≡ q.run = use_apart p.run q.run (ap (λ (x : Place). x.run) e) g in
    λ i. record { kind = (e i).kind; atom = (e i).atom; permit = a i; run = b i }

owned_apart : (ps qs : List OwnedPlace) (us vs : List Use) → map bare_place ps ≡ map bare_place qs → map (λ u. u.mixtures) us ≡ map (λ u. u.mixtures) vs
    → map (λ u. u.owner) (place_uses ps ++ us) ≡ map (λ u. u.owner) (place_uses qs ++ vs) → (ps ≡ qs) × (us ≡ vs)
unfolding place_uses
owned_apart [] [] us vs e f g = (refl, users_apart us vs f g)
owned_apart [] (q ∷ qs) us vs e f g = nil_cons e
owned_apart (p ∷ ps) [] us vs e f g = nil_cons (sym e)
owned_apart (p ∷ ps) (q ∷ qs) us vs e f g =
    let r = owned_apart ps qs us vs (cons_tail e) f (cons_tail (cons_tail g)) in
    (ap₂ ◌∷◌ (place_apart p q (cons_head e) (cons_head g) (cons_head (cons_tail g))) r.0, r.1)

pub same_owned : (m n : Owned) → bare_of m ≡ bare_of n → map (λ u. u.owner) (uses m) ≡ map (λ u. u.owner) (uses n) → m ≡ n
unfolding bare_of uses
same_owned m n e f =
    let r = owned_apart m.places n.places m.users n.users (ap (λ (x : Meaning). x.places) e) (ap (λ (x : Meaning). x.users) e) f in
    λ i. record { places = r.0 i; users = r.1 i }

-- two policies own the same exactly when they mean the same and have the same owner at every use of a rule
pub owned_parts : (p q : Policy) → (owned p ≡ owned q) ↔ ((meaning p ≡ meaning q) × (owners_at p ≡ owners_at q))
unfolding owners_at
owned_parts p q = (
  λ e. (meaning_owned p ∙ ap bare_of e ∙ sym (meaning_owned q), ap (λ (m : Owned). map (λ u. u.owner) (uses m)) e),
  λ h. same_owned (owned p) (owned q) (sym (meaning_owned p) ∙ h.0 ∙ meaning_owned q) h.1,
)

-- ---- a policy whose rules nobody owns

at_none : (owners : List ℕ) → every (eqb no_owner) owners ≡ true → (n : ℕ) → owner_at owners n ≡ no_owner
unfolding owner_at
at_none owners h n = by (eqb n unrestricted_number)
  where
    default : (l : List ℕ) (k : ℕ) → every (eqb no_owner) l ≡ true → get_or l k no_owner ≡ no_owner
    default [] k g = refl
    default (o ∷ l) zero g = sym (eqb-true no_owner o (every_0 (eqb no_owner) o l g))
    default (o ∷ l) (suc k) g = default l k (every_1 (eqb no_owner) o l g)

    by : (b : Bool) → cond b no_owner (get_or owners n no_owner) ≡ no_owner
    by true = refl
    by false = default owners n h

abbrev unowned_use : Use → Bool
unowned_use u = eqb no_owner u.owner

module _ (p : Policy) (none : every (eqb no_owner) p.owners ≡ true) where
  use_none : (n : ℕ) → unowned_use (use_at p n) ≡ true
  unfolding use_at
  use_none n = eq-eqb no_owner (owner_at p.owners n) (sym (at_none p.owners none n))

  uses_none : every unowned_use (uses (owned p)) ≡ true
  unfolding uses owned
  uses_none = every_append unowned_use (place_uses (map (owned_place p) p.containers)) (map (use_at p) p.users) (places p.containers) (users p.users)
    where
      places : (cs : List Container) → every unowned_use (place_uses (map (owned_place p) cs)) ≡ true
      places [] = unfold place_uses in every_nil unowned_use
      places (c ∷ cs) = next c cs (places cs)
        where
          next : (d : Container) (ds : List Container) → every unowned_use (place_uses (map (owned_place p) ds)) ≡ true → every unowned_use (place_uses (map (owned_place p) (d ∷ ds))) ≡ true
          next d ds h =
              unfold place_uses owned_place in
              (every_cons unowned_use (use_at p d.permit) (use_at p d.run ∷ place_uses (map (owned_place p) ds)) (use_none d.permit)
              (every_cons unowned_use (use_at p d.run) (place_uses (map (owned_place p) ds)) (use_none d.run) h))

      users : (us : List ℕ) → every unowned_use (map (use_at p) us) ≡ true
      users [] = every_nil unowned_use
      users (n ∷ us) = every_cons unowned_use (use_at p n) (map (use_at p) us) (use_none n) (users us)

  -- it has no owner at any use, and none in its normal image
  pub none_used : every (eqb no_owner) (owners_at p) ≡ true
  unfolding owners_at
  none_used = every_map unowned_use (eqb no_owner) (λ u. u.owner) (uses (owned p)) (λ u h. h) uses_none

  pub none_written : every (eqb no_owner) (normal_policy p).owners ≡ true
  unfolding normal_policy policy_of written_by written_uses
  none_written =
      every_map unowned_use (eqb no_owner) (λ u. u.owner) (written_uses (owned p)) (λ u h. h)
      (numbered_every unowned_use [] (uses (owned p)) (every_nil unowned_use) uses_none)
