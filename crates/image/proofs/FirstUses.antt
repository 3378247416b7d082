-- The rules that are written stand in the order of their first use: each is used, none is unrestricted, none stands twice.
use Prim.Native.Nat.{ℕ, ◌<◌}
use mathlib.Core.Path.{◌≡◌, refl}
use mathlib.Core.Bool.{Bool, true, false, cond, ◌||◌}
use mathlib.Core.List.{List, [], ◌∷◌, ◌++◌, map, append_assoc, append-nil}
use native.Mathlib.Omega.{arith}
use native.Mathlib.Decide.{dec_lt}
use lib.ListN.{length, get_or, length-append, get_or-append}
use lib.Seq.{get_or-append_seam}
use Rattle.lists.proofs.Bools.{or_0, clash, refuted}
use Rattle.rules.specs.Rules.{normal}
use Rattle.rules.proofs.RuleLaws.{normal_normal}
use Rattle.rule_words.specs.Words.{is_normal}
use Rattle.rule_words.proofs.WordLaws.{is_normal_of}
use Rattle.lists.specs.Lists.{every, known_by, position_by}
use Rattle.lists.proofs.Known.{known_more, known_last, known_every, position_lt, position_stays, position_behind}
use Rattle.lists.proofs.Every.{every_nil, every_cons, every_imp, every_append}
use Rattle.image.specs.Policy.{Container, Policy, rule_at}
use Rattle.image.specs.Normal.{normal_at, Use, use_at, owned_place, owned, place_uses, uses, same_use, free_use, noted, numbered}
use Rattle.image.proofs.Numbering.{use_refl, use_eq, settled, settled_noted, settled_itself}

-- ---- the rules t that are written for the uses us

pub record Firsts (t us : List Use) : Type 0 where
  pub used : (k : ℕ) → k < length t → known_by same_use (get_or t k free_use) us ≡ true
  pub restricted : (k : ℕ) → k < length t → same_use (get_or t k free_use) free_use ≡ false
  pub rising : (j k : ℕ) → j < k → k < length t → position_by same_use (get_or t j free_use) us < position_by same_use (get_or t k free_use) us
  pub numbers : every (settled t) us ≡ true

module _ (t us : List Use) (g : Firsts t us) (r : Use) where
  next_numbers : every (settled (noted t r)) (us ++ (r ∷ [])) ≡ true
  next_numbers =
      every_append (settled (noted t r)) us (r ∷ []) (every_imp (settled t) (settled (noted t r)) us (settled_noted t r) g.numbers)
      (every_cons (settled (noted t r)) r [] (settled_itself t r) (every_nil (settled (noted t r))))

  old_place : (k : ℕ) → k < length t → position_by same_use (get_or t k free_use) (us ++ (r ∷ [])) ≡ position_by same_use (get_or t k free_use) us
  old_place k l = position_stays same_use (get_or t k free_use) us (r ∷ []) (g.used k l)

  old_rising : (j k : ℕ) → j < k → k < length t → position_by same_use (get_or t j free_use) (us ++ (r ∷ [])) < position_by same_use (get_or t k free_use) (us ++ (r ∷ []))
  old_rising j k l m = omega (arith, old_place j (omega arith), old_place k m, g.rising j k l m)

  -- r has a number, or needs none
  next_old : every (settled t) (us ++ (r ∷ [])) ≡ true → Firsts t (us ++ (r ∷ []))
  next_old e = record { used = λ k l. known_more same_use (get_or t k free_use) us (r ∷ []) (g.used k l); restricted = g.restricted; rising = old_rising; numbers = e }

  -- r takes the next number
  module _ (d : (same_use r free_use || known_by same_use r t) ≡ false) where
    new_restricted : same_use r free_use ≡ false
    new_restricted = refuted (same_use r free_use) (λ p. clash (or_0 (same_use r free_use) (known_by same_use r t) p) d)

    new_unused : known_by same_use r us ≡ false
    unfolding settled
    new_unused = refuted (known_by same_use r us) (λ p. clash (known_every same_use use_eq (settled t) r us p g.numbers) d)

    each : (P : Use → Type 0) → ((k : ℕ) → k < length t → P (get_or t k free_use)) → P r → (k : ℕ) → k < length (t ++ (r ∷ [])) → P (get_or (t ++ (r ∷ [])) k free_use)
    each P f p k l = by (dec_lt k (length t))
      where
        by : Dec (k < length t) → P (get_or (t ++ (r ∷ [])) k free_use)
        by (yes m) = rw (get_or-append t (r ∷ []) free_use k m) (f k m)
        by (no m) = let e : k ≡ length t = omega (arith, length-append t (r ∷ [])) in rw (e, get_or-append_seam t r [] free_use) p

    new_rising : (j k : ℕ)
        → j < k → k < length (t ++ (r ∷ []))
        → position_by same_use (get_or (t ++ (r ∷ [])) j free_use) (us ++ (r ∷ [])) < position_by same_use (get_or (t ++ (r ∷ [])) k free_use) (us ++ (r ∷ []))
    new_rising j k l m = by (dec_lt k (length t))
      where
        by : Dec (k < length t) → position_by same_use (get_or (t ++ (r ∷ [])) j free_use) (us ++ (r ∷ [])) < position_by same_use (get_or (t ++ (r ∷ [])) k free_use) (us ++ (r ∷ []))
        by (yes n) = rw (get_or-append t (r ∷ []) free_use j (omega arith), get_or-append t (r ∷ []) free_use k n) (old_rising j k l n)
        by (no n) =
            let e : k ≡ length t = omega (arith, length-append t (r ∷ [])) in
            let i : j < length t = omega arith in
            rw (get_or-append t (r ∷ []) free_use j i, e, get_or-append_seam t r [] free_use)
            (omega (arith, old_place j i, position_lt same_use (get_or t j free_use) us (g.used j i), position_behind same_use r us (r ∷ []) new_unused))

    next_new : every (settled (t ++ (r ∷ []))) (us ++ (r ∷ [])) ≡ true → Firsts (t ++ (r ∷ [])) (us ++ (r ∷ []))
    next_new e =
        record {
          used = each (λ x. known_by same_use x (us ++ (r ∷ [])) ≡ true) (λ k l. known_more same_use (get_or t k free_use) us (r ∷ []) (g.used k l)) (known_last same_use r us (use_refl r));
          restricted = each (λ x. same_use x free_use ≡ false) g.restricted new_restricted;
          rising = new_rising;
          numbers = e;
        }

  firsts_next : Firsts (noted t r) (us ++ (r ∷ []))
  unfolding noted
  firsts_next = by (same_use r free_use || known_by same_use r t) refl next_numbers
    where
      by : (b : Bool) → (same_use r free_use || known_by same_use r t) ≡ b → every (settled (cond b t (t ++ (r ∷ [])))) (us ++ (r ∷ [])) ≡ true → Firsts (cond b t (t ++ (r ∷ []))) (us ++ (r ∷ []))
      by true d e = next_old e
      by false d e = next_new d e

firsts_all : (t us rs : List Use) → Firsts t us → Firsts (numbered t rs) (us ++ rs)
unfolding numbered
firsts_all t us [] g = rw append-nil g
firsts_all t us (r ∷ rs) g = rw append_assoc at (firsts_all (noted t r) (us ++ (r ∷ [])) rs (firsts_next t us g r))

pub firsts : (us : List Use) → Firsts (numbered [] us) us
firsts us =
    firsts_all [] [] us
    (record {
      used = λ k l. absurd (omega arith);
      restricted = λ k l. absurd (omega arith);
      rising = λ j k l m. absurd (omega arith);
      numbers = every_nil (settled []);
    })

-- ---- the rules in use are in normal form

-- the mixtures of u are in normal form
unfoldable pub use_normal : Use → Bool
use_normal u = is_normal u.mixtures

normal_at_lem : (p : Policy) (n : ℕ) → use_normal (use_at p n) ≡ true
unfolding use_normal use_at normal_at
normal_at_lem p n = is_normal_of (normal (rule_at p.rules n)) (normal_normal (rule_at p.rules n))

places_normal : (p : Policy) (cs : List Container) → every use_normal (place_uses (map (owned_place p) cs)) ≡ true
unfolding place_uses owned_place
places_normal p [] = every_nil use_normal
places_normal p (c ∷ cs) =
    every_cons use_normal (use_at p c.permit) (use_at p c.run ∷ place_uses (map (owned_place p) cs)) (normal_at_lem p c.permit)
    (every_cons use_normal (use_at p c.run) (place_uses (map (owned_place p) cs)) (normal_at_lem p c.run) (places_normal p cs))

users_normal : (p : Policy) (us : List ℕ) → every use_normal (map (use_at p) us) ≡ true
users_normal p [] = every_nil use_normal
users_normal p (n ∷ us) = every_cons use_normal (use_at p n) (map (use_at p) us) (normal_at_lem p n) (users_normal p us)

pub uses_normal : (p : Policy) → every use_normal (uses (owned p)) ≡ true
unfolding uses owned
uses_normal p =
    every_append use_normal (place_uses (map (owned_place p) p.containers)) (map (use_at p) p.users)
    (places_normal p p.containers) (users_normal p p.users)
