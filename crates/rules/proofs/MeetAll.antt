-- The meet of several rules: it goes by what they all cover, so neither their order nor a repeat matters.
use Prim.Native.Nat.{ℕ, ◌-◌, ◌^◌}
use mathlib.Core.Path.{◌≡◌, refl, sym, ap, ap₂, ◌∙◌}
use mathlib.Core.Bool.{Bool, true, false, ◌&&◌, and_assoc, and_self, and-false, or-false}
use mathlib.Core.List.Memᴰ
use mathlib.Core.List.{List, [], ◌∷◌, ◌++◌, Memᴰ}
use mathlib.Core.Logic.{⊎_elim}
use Rattle.lists.proofs.Elem.{elem_cases, elem_none}
use Rattle.rules.proofs.RuleLaws.{is_normal_lem, normal_unique, normal_normal, covers_meet}
use Rattle.lists.proofs.Bools.{and_in, and_0, and_1, same_test}
use Rattle.rules.specs.Sets.{holds}
use Rattle.rules.specs.Rules.{covers, normal, intersections, meet, unrestricted, meet_all, all_cover}
use native.Mathlib.Omega.{arith}

-- a rule of one mixture is in normal form
pub normal_one : (m : ℕ) → normal (m ∷ []) ≡ m ∷ []
normal_one m =
    sym (is_normal_lem (m ∷ []) (m ∷ []) ((λ n h. elem_none n h), tt)
    (λ a b p q h. ⊎_elim (λ x. ⊎_elim (λ y. omega arith) (λ y. elem_none b y) (elem_cases b m [] q)) (λ x. elem_none a x) (elem_cases a m [] p))
    (λ t. refl))

pub meet_all_normal : (w : ℕ) (rs : List (List ℕ)) → normal (meet_all w rs) ≡ meet_all w rs
unfolding meet_all unrestricted meet
meet_all_normal w [] = normal_one (2 ^ w - 1)
meet_all_normal w (r ∷ rs) = normal_normal (intersections r (meet_all w rs))

pub covers_meet_all : (w : ℕ) (rs : List (List ℕ)) (t : ℕ) → covers (meet_all w rs) t ≡ (all_cover rs t && holds (2 ^ w - 1) t)
unfolding meet_all unrestricted all_cover covers
covers_meet_all w [] t = or-false (holds (2 ^ w - 1) t)
covers_meet_all w (r ∷ rs) t =
    covers_meet r (meet_all w rs) t
    ∙ ap (λ (x : Bool). covers r t && x) (covers_meet_all w rs t)
    ∙ sym (and_assoc (covers r t) (all_cover rs t) (holds (2 ^ w - 1) t))

pub meet_all_unique : (w : ℕ) (rs ss : List (List ℕ)) → ((t : ℕ) → all_cover rs t ≡ all_cover ss t) → meet_all w rs ≡ meet_all w ss
meet_all_unique w rs ss e =
    sym (meet_all_normal w rs)
    ∙ normal_unique (meet_all w rs) (meet_all w ss) (λ t. covers_meet_all w rs t ∙ ap (λ (x : Bool). x && holds (2 ^ w - 1) t) (e t) ∙ sym (covers_meet_all w ss t))
    ∙ meet_all_normal w ss

pub all_cover_append : (rs ss : List (List ℕ)) (t : ℕ) → all_cover (rs ++ ss) t ≡ (all_cover rs t && all_cover ss t)
unfolding all_cover
all_cover_append [] ss t = refl
all_cover_append (r ∷ rs) ss t = ap (λ (x : Bool). covers r t && x) (all_cover_append rs ss t) ∙ sym (and_assoc (covers r t) (all_cover rs t) (all_cover ss t))

-- the meet of two meets is the meet of all
pub meet_all_append : (w : ℕ) (rs ss : List (List ℕ)) → meet_all w (rs ++ ss) ≡ meet (meet_all w rs) (meet_all w ss)
meet_all_append w rs ss =
    sym (meet_all_normal w (rs ++ ss))
    ∙ normal_unique (meet_all w (rs ++ ss)) (meet (meet_all w rs) (meet_all w ss))
    (λ t. covers_meet_all w (rs ++ ss) t
    ∙ ap (λ (x : Bool). x && holds (2 ^ w - 1) t) (all_cover_append rs ss t)
    ∙ share (all_cover rs t) (all_cover ss t) (holds (2 ^ w - 1) t)
    ∙ sym (covers_meet (meet_all w rs) (meet_all w ss) t ∙ ap₂ ◌&&◌ (covers_meet_all w rs t) (covers_meet_all w ss t)))
    ∙ (unfold meet in normal_normal (intersections (meet_all w rs) (meet_all w ss)))
  where
    share : (a b c : Bool) → (a && b && c) ≡ ((a && c) && (b && c))
    share true true c = sym (and_self c)
    share true false c = sym (and-false c)
    share false b c = refl

-- ---- by membership: neither order nor repeats matter

covers_member : (rs : List (List ℕ)) (t : ℕ) (r : List ℕ) → all_cover rs t ≡ true → Memᴰ r rs → covers r t ≡ true
unfolding all_cover
covers_member [] t r h m = absurd (Memᴰ.not-nil m)
covers_member (s ∷ rs) t r h m =
    ⊎_elim (λ e. rw e (and_0 (covers s t) (all_cover rs t) h)) (λ k. covers_member rs t r (and_1 (covers s t) h) k) (Memᴰ.cases_cons m)

members_cover : (rs : List (List ℕ)) (t : ℕ) → ((r : List ℕ) → Memᴰ r rs → covers r t ≡ true) → all_cover rs t ≡ true
unfolding all_cover
members_cover [] t f = refl
members_cover (s ∷ rs) t f = and_in (f s (Memᴰ.head refl)) (members_cover rs t (λ r m. f r (Memᴰ.tail m)))

pub meet_all_members : (w : ℕ) (rs ss : List (List ℕ)) → ((r : List ℕ) → Memᴰ r rs → Memᴰ r ss) → ((r : List ℕ) → Memᴰ r ss → Memᴰ r rs) → meet_all w rs ≡ meet_all w ss
meet_all_members w rs ss f g =
    meet_all_unique w rs ss
    (λ t. same_test (all_cover rs t) (all_cover ss t)
    (λ h. members_cover ss t (λ r m. covers_member rs t r h (g r m)))
    (λ h. members_cover rs t (λ r m. covers_member ss t r h (f r m))))
