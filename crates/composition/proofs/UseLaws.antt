-- Two policies composed, place by place: the same after exchange, a policy with itself, the uses of the result, and that it can be written.
use Prim.Native.Nat.{ℕ, zero, suc, ◌^◌, ◌≤◌, ◌<◌}
use mathlib.Core.Path.{◌≡◌, refl, sym, ap, ap₂, ◌∙◌}
use mathlib.Core.Bool.{Bool, true, false, cond, ◌&&◌, ◌||◌}
use mathlib.Core.List.{List, [], ◌∷◌, ◌++◌, map}
use native.Mathlib.Decide.{ℕ_discrete}
use native.Mathlib.Omega.{arith}
use lib.Dec.{eqb, ltb, leb}
use lib.ListN.{length, get_or, length-map}
use borrow.Author.Tests.{eqb-true, leb-true, le-leb}
use Rattle.lists.specs.Lists.{every, same_list}
use Rattle.lists.proofs.Bools.{and_in, and_0, and_1, clash}
use Rattle.lists.proofs.Every.{every_0, every_1, every_nil, every_cons, every_append, every_left, every_right}
use Rattle.lists.proofs.Same.{same_refl}
use Rattle.rules.specs.Rules.{normal}
use Rattle.rules.specs.Answers.{data_width, tag_width, mixture_limit}
use Rattle.image.specs.Limits.{rule_limit, is_file, is_volatile, is_process, no_atom, no_owner}
use Rattle.image.specs.Policy.{Container, Policy, unrestricted_rule, owner_good, rule_good}
use Rattle.image.specs.Normal.{Use, OwnedPlace, Owned, owned_place, place_uses, uses, same_use, free_use, written_by, written_uses, policy_of}
use Rattle.image.proofs.Numbering.{use_refl, use_eq}
use Rattle.image.proofs.WrittenMeaning.{form_good, form_rule, form_normal, normal_unrestricted}
use Rattle.image.proofs.WrittenOwners.{use_good, shape_owned, place_owned, Ownable}
use Rattle.composition.specs.Composed.{composed_rule, composed_owner, composed_use, composed_uses, composed_place, composed_places, composed_owned}
use Rattle.composition.specs.Images.{same_containers, short_use, uses_short, rules_few}
use Rattle.composition.proofs.ComposedLaws.{composed_comm, composed_self, composed_every, composed_normal, owner_comm, owner_same, owner_other}

-- ---- one use

pub use_comm : (c : ℕ) (u v : Use) → composed_use c u v ≡ composed_use c v u
unfolding composed_use
use_comm c u v = λ i. record { owner = owner_comm u.owner v.owner i; mixtures = composed_comm c u.mixtures v.mixtures i }

pub use_self : (c : ℕ) (u : Use) → normal u.mixtures ≡ u.mixtures → composed_use c u u ≡ u
unfolding composed_use
use_self c u h =
    let o : composed_owner u.owner u.owner ≡ u.owner = owner_same u.owner u.owner refl in
    let m : composed_rule c u.mixtures u.mixtures ≡ u.mixtures = composed_self c u.mixtures ∙ h in
    λ i. record { owner = o i; mixtures = m i }

free_self : (c : ℕ) → composed_use c free_use free_use ≡ free_use
unfolding free_use
free_self c = use_self c (record { owner = no_owner; mixtures = unrestricted_rule }) normal_unrestricted

pub use_normal : (c : ℕ) (u v : Use) → normal (composed_use c u v).mixtures ≡ (composed_use c u v).mixtures
unfolding composed_use
use_normal c u v = composed_normal c u.mixtures v.mixtures

-- an owner of the composed use is an owner of both
owner_good_lem : (n a b : ℕ) → owner_good n a ≡ true → owner_good n (composed_owner a b) ≡ true
owner_good_lem n a b h = by (ℕ_discrete a b)
  where
    nobody : owner_good n no_owner ≡ true
    nobody = unfold owner_good in (Rattle.lists.proofs.Bools.or_1 (ltb no_owner n) true refl)

    by : Dec (a ≡ b) → owner_good n (composed_owner a b) ≡ true
    by (yes e) = ap (owner_good n) (owner_same a b e) ∙ h
    by (no d) = ap (owner_good n) (owner_other a b d) ∙ nobody

abbrev small : ℕ → Bool
small m = ltb m (2 ^ tag_width)

use_good_lem : (c n : ℕ) (u v : Use) → use_good n u ≡ true → use_good n v ≡ true → short_use (composed_use c u v) ≡ true → use_good n (composed_use c u v) ≡ true
unfolding use_good form_good rule_good composed_use
use_good_lem c n u v h k l =
    and_in
    (and_in (and_in l (composed_every small c u.mixtures v.mixtures (width u h) (width v k)))
    (rw (composed_normal c u.mixtures v.mixtures) (same_refl (composed_rule c u.mixtures v.mixtures))))
    (owner_good_lem n u.owner v.owner (and_1 (form_good u.mixtures) h))
  where
    width : (w : Use) → use_good n w ≡ true → every small w.mixtures ≡ true
    width w g = and_1 (leb (length w.mixtures) mixture_limit) (form_rule w.mixtures (and_0 (form_good w.mixtures) (owner_good n w.owner) g))

good_normal : (n : ℕ) (u : Use) → use_good n u ≡ true → normal u.mixtures ≡ u.mixtures
unfolding use_good
good_normal n u h = form_normal u.mixtures (and_0 (form_good u.mixtures) (owner_good n u.owner) h)

good_short : (n : ℕ) (u : Use) → use_good n u ≡ true → short_use u ≡ true
unfolding use_good rule_good
good_short n u h = and_0 (leb (length u.mixtures) mixture_limit) (every small u.mixtures) (form_rule u.mixtures (and_0 (form_good u.mixtures) (owner_good n u.owner) h))

-- ---- several uses

pub uses_comm : (c : ℕ) (us vs : List Use) → composed_uses c us vs ≡ composed_uses c vs us
unfolding composed_uses
uses_comm c [] [] = refl
uses_comm c [] (v ∷ vs) = refl
uses_comm c (u ∷ us) [] = refl
uses_comm c (u ∷ us) (v ∷ vs) = ap₂ ◌∷◌ (use_comm c u v) (uses_comm c us vs)

pub uses_count : (c : ℕ) (us vs : List Use) → length us ≡ length vs → length (composed_uses c us vs) ≡ length us
unfolding composed_uses
uses_count c [] vs e = refl
uses_count c (u ∷ us) [] e = absurd (omega arith)
uses_count c (u ∷ us) (v ∷ vs) e = ap suc (uses_count c us vs (omega arith))

pub uses_append : (c : ℕ) (us vs xs ys : List Use) → length us ≡ length vs → composed_uses c (us ++ xs) (vs ++ ys) ≡ composed_uses c us vs ++ composed_uses c xs ys
unfolding composed_uses
uses_append c [] [] xs ys e = refl
uses_append c [] (v ∷ vs) xs ys e = absurd (omega arith)
uses_append c (u ∷ us) [] xs ys e = absurd (omega arith)
uses_append c (u ∷ us) (v ∷ vs) xs ys e = ap (λ (l : List Use). composed_use c u v ∷ l) (uses_append c us vs xs ys (omega arith))

pub uses_at : (c : ℕ) (us vs : List Use) (k : ℕ) → k < length us → k < length vs → get_or (composed_uses c us vs) k free_use ≡ composed_use c (get_or us k free_use) (get_or vs k free_use)
unfolding composed_uses
uses_at c [] vs k l h = absurd (omega arith)
uses_at c (u ∷ us) [] k l h = absurd (omega arith)
uses_at c (u ∷ us) (v ∷ vs) zero l h = refl
uses_at c (u ∷ us) (v ∷ vs) (suc k) l h = uses_at c us vs k (omega arith) (omega arith)

-- each rule of the result is in normal form
abbrev pub normal_test : Use → Bool
normal_test u = same_list (normal u.mixtures) u.mixtures

pub uses_normal : (c : ℕ) (us vs : List Use) → every normal_test (composed_uses c us vs) ≡ true
unfolding composed_uses
uses_normal c [] vs = every_nil normal_test
uses_normal c (u ∷ us) [] = every_nil normal_test
uses_normal c (u ∷ us) (v ∷ vs) = every_cons normal_test (composed_use c u v) (composed_uses c us vs) (rw (use_normal c u v) (same_refl (composed_use c u v).mixtures)) (uses_normal c us vs)

uses_self : (c n : ℕ) (us : List Use) → every (use_good n) us ≡ true → composed_uses c us us ≡ us
unfolding composed_uses
uses_self c n [] h = refl
uses_self c n (u ∷ us) h = ap₂ ◌∷◌ (use_self c u (good_normal n u (every_0 (use_good n) u us h))) (uses_self c n us (every_1 (use_good n) u us h))

uses_good : (c n : ℕ) (us vs : List Use) → every (use_good n) us ≡ true → every (use_good n) vs ≡ true
    → every short_use (composed_uses c us vs) ≡ true → every (use_good n) (composed_uses c us vs) ≡ true
unfolding composed_uses
uses_good c n [] vs h k s = every_nil (use_good n)
uses_good c n (u ∷ us) [] h k s = every_nil (use_good n)
uses_good c n (u ∷ us) (v ∷ vs) h k s =
    every_cons (use_good n) (composed_use c u v) (composed_uses c us vs)
    (use_good_lem c n u v (every_0 (use_good n) u us h) (every_0 (use_good n) v vs k) (every_0 short_use (composed_use c u v) (composed_uses c us vs) s))
    (uses_good c n us vs (every_1 (use_good n) u us h) (every_1 (use_good n) v vs k) (every_1 short_use (composed_use c u v) (composed_uses c us vs) s))

-- ---- places that agree in number, kind and atom

abbrev pub Alike : List OwnedPlace → List OwnedPlace → Type 0
Alike [] [] = Unit {0}
Alike [] (q ∷ qs) = ⊥
Alike (p ∷ ps) [] = ⊥
Alike (p ∷ ps) (q ∷ qs) = (p.kind ≡ q.kind) × (p.atom ≡ q.atom) × Alike ps qs

pub alike : (p q : Policy) (cs ds : List Container) → same_containers cs ds ≡ true → Alike (map (owned_place p) cs) (map (owned_place q) ds)
unfolding same_containers owned_place
alike p q [] [] h = tt
alike p q [] (d ∷ ds) h = clash h refl
alike p q (c ∷ cs) [] h = clash h refl
alike p q (c ∷ cs) (d ∷ ds) h =
    let g : (eqb c.atom d.atom && same_containers cs ds) ≡ true = and_1 (eqb c.kind d.kind) h in (
      eqb-true c.kind d.kind (and_0 (eqb c.kind d.kind) (eqb c.atom d.atom && same_containers cs ds) h),
      eqb-true c.atom d.atom (and_0 (eqb c.atom d.atom) (same_containers cs ds) g),
      alike p q cs ds (and_1 (eqb c.atom d.atom) g),
    )

alike_swap : (ps qs : List OwnedPlace) → Alike ps qs → Alike qs ps
alike_swap [] [] a = tt
alike_swap [] (q ∷ qs) a = absurd a
alike_swap (p ∷ ps) [] a = absurd a
alike_swap (p ∷ ps) (q ∷ qs) a = (sym a.0, sym a.1, alike_swap ps qs a.2)

pub alike_count : (ps qs : List OwnedPlace) → Alike ps qs → length ps ≡ length qs
alike_count [] [] a = refl
alike_count [] (q ∷ qs) a = absurd a
alike_count (p ∷ ps) [] a = absurd a
alike_count (p ∷ ps) (q ∷ qs) a = ap suc (alike_count ps qs a.2)

pub alike_uses : (ps qs : List OwnedPlace) → Alike ps qs → length (place_uses ps) ≡ length (place_uses qs)
unfolding place_uses
alike_uses [] [] a = refl
alike_uses [] (q ∷ qs) a = absurd a
alike_uses (p ∷ ps) [] a = absurd a
alike_uses (p ∷ ps) (q ∷ qs) a = ap (λ (n : ℕ). suc (suc n)) (alike_uses ps qs a.2)

pub places_comm : (c : ℕ) (ps qs : List OwnedPlace) → Alike ps qs → composed_places c ps qs ≡ composed_places c qs ps
unfolding composed_places composed_place
places_comm c [] [] a = refl
places_comm c [] (q ∷ qs) a = absurd a
places_comm c (p ∷ ps) [] a = absurd a
places_comm c (p ∷ ps) (q ∷ qs) a =
    ap₂ (λ (x : OwnedPlace) (l : List OwnedPlace). x ∷ l)
    (λ i. record { kind = a.0 i; atom = a.1 i; permit = use_comm c p.permit q.permit i; run = use_comm c p.run q.run i })
    (places_comm c ps qs a.2)

pub places_count : (c : ℕ) (ps qs : List OwnedPlace) → Alike ps qs → length (composed_places c ps qs) ≡ length ps
unfolding composed_places
places_count c [] [] a = refl
places_count c [] (q ∷ qs) a = absurd a
places_count c (p ∷ ps) [] a = absurd a
places_count c (p ∷ ps) (q ∷ qs) a = ap suc (places_count c ps qs a.2)

pub places_uses : (c : ℕ) (ps qs : List OwnedPlace) → Alike ps qs → place_uses (composed_places c ps qs) ≡ composed_uses c (place_uses ps) (place_uses qs)
unfolding composed_places composed_place place_uses composed_uses
places_uses c [] [] a = refl
places_uses c [] (q ∷ qs) a = absurd a
places_uses c (p ∷ ps) [] a = absurd a
places_uses c (p ∷ ps) (q ∷ qs) a =
    ap (λ (l : List Use). composed_use c p.permit q.permit ∷ composed_use c p.run q.run ∷ l) (places_uses c ps qs a.2)

place_self : (c n : ℕ) (p : OwnedPlace) → place_owned n p ≡ true → composed_place c p p ≡ p
unfolding composed_place place_owned
place_self c n p h =
    let g : (use_good n p.permit && use_good n p.run) ≡ true = and_1 (shape_owned p) h in
    let a : composed_use c p.permit p.permit ≡ p.permit = use_self c p.permit (good_normal n p.permit (and_0 (use_good n p.permit) (use_good n p.run) g)) in
    let b : composed_use c p.run p.run ≡ p.run = use_self c p.run (good_normal n p.run (and_1 (use_good n p.permit) g)) in
    λ i. record { kind = p.kind; atom = p.atom; permit = a i; run = b i }

places_self : (c n : ℕ) (ps : List OwnedPlace) → every (place_owned n) ps ≡ true → composed_places c ps ps ≡ ps
unfolding composed_places
places_self c n [] h = refl
places_self c n (p ∷ ps) h = ap₂ ◌∷◌ (place_self c n p (every_0 (place_owned n) p ps h)) (places_self c n ps (every_1 (place_owned n) p ps h))

-- what has no rule of its own has none in the result
abbrev file_shape : OwnedPlace → Bool
file_shape p = ltb p.atom data_width || eqb p.atom no_atom

abbrev other_shape : ℕ → OwnedPlace → Bool
other_shape k p = (is_volatile k || is_process k) && (eqb p.atom no_atom && (same_use p.permit free_use && same_use p.run free_use))

place_shape : (c : ℕ) (p q : OwnedPlace) → p.kind ≡ q.kind → shape_owned p ≡ true → shape_owned q ≡ true → shape_owned (composed_place c p q) ≡ true
unfolding shape_owned composed_place
place_shape c p q e h k = by (is_file p.kind) h (rw (sym e) at k)
  where
    both : (u v : Use) → same_use u free_use ≡ true → same_use v free_use ≡ true → same_use (composed_use c u v) free_use ≡ true
    both u v x y =
        let z : composed_use c u v ≡ free_use = ap₂ (composed_use c) (use_eq u free_use x) (use_eq v free_use y) ∙ free_self c in
        rw z (use_refl free_use)

    by : (b : Bool) → cond b (file_shape p) (other_shape p.kind p) ≡ true → cond b (file_shape q) (other_shape p.kind q) ≡ true
        → cond b (file_shape p)
        ((is_volatile p.kind || is_process p.kind)
        && (eqb p.atom no_atom && (same_use (composed_use c p.permit q.permit) free_use && same_use (composed_use c p.run q.run) free_use)))
        ≡ true
    by true x y = x
    by false x y =
        let f : (eqb p.atom no_atom && (same_use p.permit free_use && same_use p.run free_use)) ≡ true = and_1 (is_volatile p.kind || is_process p.kind) x in
        let g : (same_use p.permit free_use && same_use p.run free_use) ≡ true = and_1 (eqb p.atom no_atom) f in
        let i : (same_use q.permit free_use && same_use q.run free_use) ≡ true = and_1 (eqb q.atom no_atom) (and_1 (is_volatile p.kind || is_process p.kind) y) in
        and_in (and_0 (is_volatile p.kind || is_process p.kind) (eqb p.atom no_atom && (same_use p.permit free_use && same_use p.run free_use)) x)
        (and_in (and_0 (eqb p.atom no_atom) (same_use p.permit free_use && same_use p.run free_use) f)
        (and_in (both p.permit q.permit (and_0 (same_use p.permit free_use) (same_use p.run free_use) g) (and_0 (same_use q.permit free_use) (same_use q.run free_use) i))
        (both p.run q.run (and_1 (same_use p.permit free_use) g) (and_1 (same_use q.permit free_use) i))))

place_good : (c n : ℕ) (p q : OwnedPlace) → p.kind ≡ q.kind → place_owned n p ≡ true → place_owned n q ≡ true → short_use (composed_use c p.permit q.permit) ≡ true
    → short_use (composed_use c p.run q.run) ≡ true → place_owned n (composed_place c p q) ≡ true
unfolding place_owned composed_place
place_good c n p q e h k s t =
    let f : (use_good n p.permit && use_good n p.run) ≡ true = and_1 (shape_owned p) h in
    let g : (use_good n q.permit && use_good n q.run) ≡ true = and_1 (shape_owned q) k in
    and_in (place_shape c p q e (and_0 (shape_owned p) (use_good n p.permit && use_good n p.run) h) (and_0 (shape_owned q) (use_good n q.permit && use_good n q.run) k))
    (and_in (use_good_lem c n p.permit q.permit (and_0 (use_good n p.permit) (use_good n p.run) f) (and_0 (use_good n q.permit) (use_good n q.run) g) s)
    (use_good_lem c n p.run q.run (and_1 (use_good n p.permit) f) (and_1 (use_good n q.permit) g) t))

places_good_lem : (c n : ℕ) (ps qs : List OwnedPlace) → Alike ps qs → every (place_owned n) ps ≡ true → every (place_owned n) qs ≡ true
    → every short_use (composed_uses c (place_uses ps) (place_uses qs)) ≡ true → every (place_owned n) (composed_places c ps qs) ≡ true
unfolding composed_places place_uses composed_uses
places_good_lem c n [] [] a h k s = every_nil (place_owned n)
places_good_lem c n [] (q ∷ qs) a h k s = absurd a
places_good_lem c n (p ∷ ps) [] a h k s = absurd a
places_good_lem c n (p ∷ ps) (q ∷ qs) a h k s =
    let x : Use = composed_use c p.permit q.permit in
    let y : Use = composed_use c p.run q.run in
    let l : List Use = composed_uses c (place_uses ps) (place_uses qs) in
    let t : every short_use (y ∷ l) ≡ true = every_1 short_use x (y ∷ l) s in
    every_cons (place_owned n) (composed_place c p q) (composed_places c ps qs)
    (place_good c n p q a.0 (every_0 (place_owned n) p ps h) (every_0 (place_owned n) q qs k) (every_0 short_use x (y ∷ l) s) (every_0 short_use y l t))
    (places_good_lem c n ps qs a.2 (every_1 (place_owned n) p ps h) (every_1 (place_owned n) q qs k) (every_1 short_use y l t))

-- ---- all that is owned

-- two that agree in places and in the number of users
pub record Matched (m n : Owned) : Type 0 where
  pub places : Alike m.places n.places
  pub users : length m.users ≡ length n.users

pub owned_comm : (c : ℕ) (m n : Owned) → Matched m n → composed_owned c m n ≡ composed_owned c n m
unfolding composed_owned
owned_comm c m n a = λ i. record { places = places_comm c m.places n.places a.places i; users = uses_comm c m.users n.users i }

pub owned_uses : (c : ℕ) (m n : Owned) → Matched m n → uses (composed_owned c m n) ≡ composed_uses c (uses m) (uses n)
unfolding uses composed_owned
owned_uses c m n a =
    ap (λ (l : List Use). l ++ composed_uses c m.users n.users) (places_uses c m.places n.places a.places)
    ∙ sym (uses_append c (place_uses m.places) (place_uses n.places) m.users n.users (alike_uses m.places n.places a.places))

pub owned_self : (c : ℕ) (m : Owned) → Ownable m → composed_owned c m m ≡ m
unfolding composed_owned
owned_self c m h =
    let e : composed_places c m.places m.places ≡ m.places = places_self c (length m.users) m.places h.places_good in
    let f : composed_uses c m.users m.users ≡ m.users = uses_self c (length m.users) m.users h.users_good in
    λ i. record { places = e i; users = f i }

-- as many rules are written as an image has, if the policy says so
written_few : (m : Owned) → rules_few m ≡ true → length (written_uses m) ≤ rule_limit
unfolding rules_few policy_of written_by
written_few m h = omega (arith, leb-true (length (map (λ u. u.mixtures) (written_uses m))) rule_limit h, length-map (written_uses m) (λ u. u.mixtures))

pub few_written : (m : Owned) → length (written_uses m) ≤ rule_limit → rules_few m ≡ true
unfolding rules_few policy_of written_by
few_written m h = le-leb (length (map (λ u. u.mixtures) (written_uses m))) rule_limit (omega (arith, length-map (written_uses m) (λ u. u.mixtures)))

-- what can be written down can be so composed, if it fits
module _ (c : ℕ) (m n : Owned) (a : Matched m n) (hm : Ownable m) (hn : Ownable n) (short : uses_short (composed_owned c m n) ≡ true) (few : rules_few (composed_owned c m n) ≡ true) where
  short_both : every short_use (composed_uses c (place_uses m.places) (place_uses n.places) ++ composed_uses c m.users n.users) ≡ true
  unfolding uses_short uses composed_owned
  short_both = ap (λ (l : List Use). every short_use (l ++ composed_uses c m.users n.users)) (sym (places_uses c m.places n.places a.places)) ∙ short

  users_count : length (composed_uses c m.users n.users) ≡ length m.users
  users_count = uses_count c m.users n.users a.users

  pub composed_ownable : Ownable (composed_owned c m n)
  unfolding composed_owned
  composed_ownable =
      record {
        few_places = omega (arith, places_count c m.places n.places a.places, hm.few_places);
        few_users = omega (arith, users_count, hm.few_users);
        places_good =
            rw users_count
            (places_good_lem c (length m.users) m.places n.places a.places hm.places_good (rw (sym a.users) at hn.places_good)
            (every_left short_use (composed_uses c (place_uses m.places) (place_uses n.places)) (composed_uses c m.users n.users) short_both));
        users_good =
            rw users_count
            (uses_good c (length m.users) m.users n.users hm.users_good (rw (sym a.users) at hn.users_good)
            (every_right short_use (composed_uses c (place_uses m.places) (place_uses n.places)) (composed_uses c m.users n.users) short_both));
        few_rules = written_few (composed_owned c m n) few;
      }

-- ---- what can be written down has short rules

places_short : (n : ℕ) (ps : List OwnedPlace) → every (place_owned n) ps ≡ true → every short_use (place_uses ps) ≡ true
unfolding place_uses place_owned
places_short n [] h = every_nil short_use
places_short n (p ∷ ps) h =
    let g : (use_good n p.permit && use_good n p.run) ≡ true = and_1 (shape_owned p) (every_0 (place_owned n) p ps h) in
    every_cons short_use p.permit (p.run ∷ place_uses ps) (good_short n p.permit (and_0 (use_good n p.permit) (use_good n p.run) g))
    (every_cons short_use p.run (place_uses ps) (good_short n p.run (and_1 (use_good n p.permit) g)) (places_short n ps (every_1 (place_owned n) p ps h)))

users_short : (n : ℕ) (us : List Use) → every (use_good n) us ≡ true → every short_use us ≡ true
users_short n us h = Rattle.lists.proofs.Every.every_imp (use_good n) short_use us (good_short n) h

pub ownable_short : (m : Owned) → Ownable m → uses_short m ≡ true
unfolding uses_short uses
ownable_short m h =
    every_append short_use (place_uses m.places) m.users (places_short (length m.users) m.places h.places_good) (users_short (length m.users) m.users h.users_good)
