-- Rules numbered by first use.
use Prim.Native.Nat.{ℕ, suc, ◌+◌, ◌≤◌, ◌<◌}
use mathlib.Core.Path.{◌≡◌, refl, sym, ap, ◌∙◌}
use mathlib.Core.Bool.{Bool, true, false, cond, ◌||◌}
use mathlib.Core.List.{List, [], ◌∷◌, ◌++◌, map}
use mathlib.Core.Logic.{⊎_elim}
use native.Mathlib.Omega.{arith}
use lib.Dec.{eqb, ltb}
use lib.ListN.{length, get_or, length-append}
use borrow.Author.Tests.{ne_eqb, lt-ltb, ltb-true, eq-eqb, eqb-true}
use Rattle.lists.proofs.Bools.{and_in, and_0, and_1, or_0, or_1, or_cases, clash, refuted}
use Rattle.lists.specs.Lists.{same_list, every, known_by, position_by}
use Rattle.lists.proofs.Places.{map_at}
use Rattle.lists.proofs.Same.{same_refl, same_eq}
use Rattle.lists.proofs.Known.{known_more, known_last, position_lt, position_at}
use Rattle.image.specs.Limits.{unrestricted_number, no_owner}
use Rattle.image.specs.Policy.{unrestricted_rule, rule_at, owner_at, named}
use Rattle.image.specs.Normal.{Use, same_use, free_use, noted, numbered, number_of}
use Rattle.lists.proofs.Every.{every_0, every_1, every_nil, every_cons, every_append}

-- ---- the test of two uses is that they are the same

pub use_refl : (u : Use) → same_use u u ≡ true
unfolding same_use
use_refl u = and_in (eq-eqb u.owner u.owner refl) (same_refl u.mixtures)

pub use_eq : (u v : Use) → same_use u v ≡ true → u ≡ v
unfolding same_use
use_eq u v h =
    let e : u.owner ≡ v.owner = eqb-true u.owner v.owner (and_0 (eqb u.owner v.owner) (same_list u.mixtures v.mixtures) h) in
    let f : u.mixtures ≡ v.mixtures = same_eq u.mixtures v.mixtures (and_1 (eqb u.owner v.owner) h) in
    λ i. record { owner = e i; mixtures = f i }

-- r needs no number, or has one
unfoldable pub settled : List Use → Use → Bool
settled t r = same_use r free_use || known_by same_use r t

-- ---- one more rule

pub settled_noted : (t : List Use) (r s : Use) → settled t s ≡ true → settled (noted t r) s ≡ true
unfolding settled noted
settled_noted t r s h = by (same_use r free_use || known_by same_use r t)
  where
    by : (b : Bool) → (same_use s free_use || known_by same_use s (cond b t (t ++ (r ∷ [])))) ≡ true
    by true = h
    by false =
        ⊎_elim (or_0 (same_use s free_use) (known_by same_use s (t ++ (r ∷ []))))
        (λ p. or_1 (same_use s free_use) (known_by same_use s (t ++ (r ∷ []))) (known_more same_use s t (r ∷ []) p))
        (or_cases (same_use s free_use) h)

pub settled_itself : (t : List Use) (r : Use) → settled (noted t r) r ≡ true
unfolding settled noted
settled_itself t r = by (same_use r free_use || known_by same_use r t) refl
  where
    by : (b : Bool) → (same_use r free_use || known_by same_use r t) ≡ b → (same_use r free_use || known_by same_use r (cond b t (t ++ (r ∷ [])))) ≡ true
    by true e = e
    by false e = or_1 (same_use r free_use) (known_by same_use r (t ++ (r ∷ []))) (known_last same_use r t (use_refl r))

-- ---- all of them

settled_stays : (t rs : List Use) (s : Use) → settled t s ≡ true → settled (numbered t rs) s ≡ true
unfolding numbered
settled_stays t [] s h = h
settled_stays t (r ∷ rs) s h = settled_stays (noted t r) rs s (settled_noted t r s h)

-- each rule in use is settled
pub all_settled : (t rs : List Use) → every (settled (numbered t rs)) rs ≡ true
unfolding numbered
all_settled t [] = every_nil (settled t)
all_settled t (r ∷ rs) =
    every_cons (settled (numbered (noted t r) rs)) r rs (settled_stays (noted t r) rs r (settled_itself t r)) (all_settled (noted t r) rs)

-- what holds of the rules in use holds of those written
pub numbered_every : (f : Use → Bool) (t rs : List Use) → every f t ≡ true → every f rs ≡ true → every f (numbered t rs) ≡ true
unfolding numbered noted
numbered_every f t [] h k = h
numbered_every f t (r ∷ rs) h k = numbered_every f (noted t r) rs (by (same_use r free_use || known_by same_use r t)) (every_1 f r rs k)
  where
    by : (b : Bool) → every f (cond b t (t ++ (r ∷ []))) ≡ true
    by true = h
    by false = every_append f t (r ∷ []) h (every_cons f r [] (every_0 f r rs k) (every_nil f))

-- ---- no more are written than there were: those of s that are not yet written get fewer

unseen : List Use → List Use → ℕ
unseen t [] = 0
unseen t (x ∷ s) = cond (known_by same_use x t) 0 1 + unseen t s

weight : (a b : Bool) → (a ≡ true → b ≡ true) → cond b 0 1 ≤ cond a 0 1
weight true b h = rw (h refl) (omega arith)
weight false true h = omega arith
weight false false h = omega arith

unseen_falls : (t : List Use) (r : Use) (s : List Use) → unseen (t ++ (r ∷ [])) s ≤ unseen t s
unfolding unseen
unseen_falls t r [] = omega arith
unseen_falls t r (x ∷ s) = omega (arith, unseen_falls t r s, weight (known_by same_use x t) (known_by same_use x (t ++ (r ∷ []))) (known_more same_use x t (r ∷ [])))

unseen_less : (t : List Use) (r : Use) (s : List Use) → known_by same_use r t ≡ false → known_by same_use r s ≡ true → suc (unseen (t ++ (r ∷ [])) s) ≤ unseen t s
unfolding unseen known_by
unseen_less t r [] h k = clash k refl
unseen_less t r (x ∷ s) h k = ⊎_elim here (λ p. there (unseen_less t r s h p)) (or_cases (same_use r x) k)
  where
    here : same_use r x ≡ true → suc (cond (known_by same_use x (t ++ (r ∷ []))) 0 1 + unseen (t ++ (r ∷ [])) s) ≤ cond (known_by same_use x t) 0 1 + unseen t s
    here p =
        let e : r ≡ x = use_eq r x p in
        rw (← e, h, known_last same_use r t (use_refl r)) (omega (arith, unseen_falls t r s))

    there : suc (unseen (t ++ (r ∷ [])) s) ≤ unseen t s → suc (cond (known_by same_use x (t ++ (r ∷ []))) 0 1 + unseen (t ++ (r ∷ [])) s) ≤ cond (known_by same_use x t) 0 1 + unseen t s
    there ih = omega (arith, weight (known_by same_use x t) (known_by same_use x (t ++ (r ∷ []))) (known_more same_use x t (r ∷ [])))

noted_count : (t : List Use) (r : Use) (s : List Use) → settled s r ≡ true → length (noted t r) + unseen (noted t r) s ≤ length t + unseen t s
unfolding noted settled
noted_count t r s h = by (same_use r free_use || known_by same_use r t) refl
  where
    by : (b : Bool) → (same_use r free_use || known_by same_use r t) ≡ b → length (cond b t (t ++ (r ∷ []))) + unseen (cond b t (t ++ (r ∷ []))) s ≤ length t + unseen t s
    by true e = omega arith
    by false e =
        let a : same_use r free_use ≡ false = refuted (same_use r free_use) (λ p. clash (or_0 (same_use r free_use) (known_by same_use r t) p) e) in
        let b : known_by same_use r t ≡ false = refuted (known_by same_use r t) (λ p. clash (or_1 (same_use r free_use) (known_by same_use r t) p) e) in
        let k : known_by same_use r s ≡ true = ⊎_elim (λ p. clash p a) (λ p. p) (or_cases (same_use r free_use) h) in
        omega (arith, length-append t (r ∷ []), unseen_less t r s b k)

numbered_count : (t rs s : List Use) → every (settled s) rs ≡ true → length (numbered t rs) ≤ length t + unseen t s
unfolding numbered
numbered_count t [] s h = omega arith
numbered_count t (r ∷ rs) s h =
    omega (arith, numbered_count (noted t r) rs s (every_1 (settled s) r rs h), noted_count t r s (every_0 (settled s) r rs h))

unseen_length : (t s : List Use) → unseen t s ≤ length s
unfolding unseen
unseen_length t [] = omega arith
unseen_length t (x ∷ s) = by (known_by same_use x t) (unseen_length t s)
  where
    by : (b : Bool) → unseen t s ≤ length s → cond b 0 1 + unseen t s ≤ suc (length s)
    by true h = omega arith
    by false h = omega arith

pub numbered_few : (rs s : List Use) → every (settled s) rs ≡ true → length (numbered [] rs) ≤ length s
numbered_few rs s h = omega (arith, numbered_count [] rs s h, unseen_length [] s)

-- ---- a settled rule's number is that rule's

-- the use that a number stands for
unfoldable pub use_in : List Use → ℕ → Use
use_in t n = cond (eqb n unrestricted_number) free_use (get_or t n free_use)

module _ (t : List Use) (n : ℕ) (h : named (length t) n ≡ true) where
  pub mixtures_in : rule_at (map (λ u. u.mixtures) t) n ≡ (use_in t n).mixtures
  unfolding rule_at use_in named free_use
  mixtures_in = by (eqb n unrestricted_number) h
    where
      by : (b : Bool) → (ltb n (length t) || b) ≡ true → cond b unrestricted_rule (get_or (map (λ u. u.mixtures) t) n []) ≡ (cond b free_use (get_or t n free_use)).mixtures
      by true k = refl
      by false k = map_at (λ u. u.mixtures) t n free_use [] (⊎_elim (λ p. ltb-true n (length t) p) (λ p. clash p refl) (or_cases (ltb n (length t)) k))

  pub owner_in : owner_at (map (λ u. u.owner) t) n ≡ (use_in t n).owner
  unfolding owner_at use_in named free_use
  owner_in = by (eqb n unrestricted_number) h
    where
      by : (b : Bool) → (ltb n (length t) || b) ≡ true → cond b no_owner (get_or (map (λ u. u.owner) t) n no_owner) ≡ (cond b free_use (get_or t n free_use)).owner
      by true k = refl
      by false k = map_at (λ u. u.owner) t n free_use no_owner (⊎_elim (λ p. ltb-true n (length t) p) (λ p. clash p refl) (or_cases (ltb n (length t)) k))

module _ (t : List Use) (few : length t ≤ unrestricted_number) (r : Use) (h : settled t r ≡ true) where
  -- `number_of t r`, with the test whether r is free apart
  abbrev number_as : Bool → ℕ
  number_as free = cond free unrestricted_number (position_by same_use r t)

  pub number_use : use_in t (number_of t r) ≡ r
  unfolding use_in number_of settled
  number_use = by (same_use r free_use) refl h
    where
      by : (b : Bool)
          → same_use r free_use ≡ b → (b || known_by same_use r t) ≡ true
          → cond (eqb (number_as b) unrestricted_number) free_use (get_or t (number_as b) free_use) ≡ r
      by true e k = sym (use_eq r free_use e)
      by false e k =
          let l : position_by same_use r t < length t = position_lt same_use r t k in
          rw (ne_eqb (position_by same_use r t) unrestricted_number (λ q. omega arith)) (position_at same_use use_eq free_use r t k)

  pub number_named : named (length t) (number_of t r) ≡ true
  unfolding named number_of settled
  number_named = by (same_use r free_use) h
    where
      by : (b : Bool) → (b || known_by same_use r t) ≡ true → (ltb (number_as b) (length t) || eqb (number_as b) unrestricted_number) ≡ true
      by true k = or_1 (ltb unrestricted_number (length t)) true refl
      by false k = or_0 (ltb (position_by same_use r t) (length t)) (eqb (position_by same_use r t) unrestricted_number) (lt-ltb (position_by same_use r t) (length t) (position_lt same_use r t k))

  pub number_mixtures : rule_at (map (λ u. u.mixtures) t) (number_of t r) ≡ r.mixtures
  number_mixtures = mixtures_in t (number_of t r) number_named ∙ ap (λ (u : Use). u.mixtures) number_use

  pub number_owner : owner_at (map (λ u. u.owner) t) (number_of t r) ≡ r.owner
  number_owner = owner_in t (number_of t r) number_named ∙ ap (λ (u : Use). u.owner) number_use
