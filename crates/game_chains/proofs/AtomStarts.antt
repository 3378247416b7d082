-- Where data atoms start in the derived policy: atom a in object a, and nowhere else.
use mathlib.Core.Path.{◌≡◌, refl, sym, ap, subst, ◌∙◌}
use mathlib.Core.Bool.{true}
use mathlib.Core.Logic.{◌⊎◌, inl, inr, ◌↔◌}
use mathlib.Core.List.{List, [], ◌∷◌, ◌++◌, map}
use mathlib.Core.Option.{some}
use Prim.Native.Nat.{ℕ, zero, suc, ◌+◌, ◌<◌}
use native.Mathlib.Omega.{arith}
use lib.ListN.{length, get_elem?, replicate}
use Rattle.rules.specs.Sets.{atom}
use Rattle.lists.specs.Counting.{count_from}
use Rattle.lists.proofs.Bools.{clash}
use Rattle.lists.proofs.Places.{some_inj}
use Rattle.image.specs.Limits.{is_file, kind_in}
use Rattle.image.specs.Policy.{Container, Policy}
use Rattle.image.specs.Image.{policy_in}
use Rattle.image.specs.Normal.{Place, process_place, Meaning, place_of, meaning}
use Rattle.matrix.specs.Flows.{matrix_good}
use Rattle.matrix.proofs.GoodLaws.{Good, good_parts}
use Rattle.derivation.specs.Derived.{derived_image}
use Rattle.derivation.proofs.DerivedLaws.{file_place, derived_means}
use Rattle.derivation.proofs.Theorems.{derived_read}
use Rattle.chains.specs.Chains.{ContainerAt, data_atom, Starts}
use Rattle.silence.proofs.DerivedStart.{file_at}

-- ---- members of a list that is mapped, or made of two

mapped : {A B : Type 0} (f : A → B) (xs : List A) (i : ℕ) (x : A) → get_elem? xs i ≡ some x → get_elem? (map f xs) i ≡ some (f x)
mapped f [] i x e = let z : ◌≡◌ {A = ℕ} 0 1 = cc in absurd (omega arith)
mapped f (y ∷ xs) zero x e = ap (λ z. some (f z)) (some_inj e)
mapped f (y ∷ xs) (suc i) x e = mapped f xs i x e

-- a member of the mapped list is one of a member
unmapped : {A B : Type 0} (f : A → B) (xs : List A) (i : ℕ) (y : B) → get_elem? (map f xs) i ≡ some y → (x : A) × (get_elem? xs i ≡ some x) × (f x ≡ y)
unmapped f [] i y e = let z : ◌≡◌ {A = ℕ} 0 1 = cc in absurd (omega arith)
unmapped f (x ∷ xs) zero y e = (x, refl, some_inj e)
unmapped f (x ∷ xs) (suc i) y e = unmapped f xs i y e

copied : {A : Type 0} (m i : ℕ) (p y : A) → get_elem? (replicate m p) i ≡ some y → p ≡ y
copied zero i p y e = let z : ◌≡◌ {A = ℕ} 0 1 = cc in absurd (omega arith)
copied (suc m) zero p y e = some_inj e
copied (suc m) (suc i) p y e = copied m i p y e

place_cases : (f : ℕ → Place) (k n c m : ℕ) (p y : Place) → get_elem? (map f (count_from k n) ++ replicate m p) c ≡ some y → ((c < n) × (f (k + c) ≡ y)) ⊎ (p ≡ y)
unfolding count_from
place_cases f k zero c m p y e = inr (copied m c p y e)
place_cases f k (suc n) zero m p y e = let q : k + 0 ≡ k = omega arith in inl (omega arith, ap f q ∙ some_inj e)
place_cases f k (suc n) (suc c) m p y e = by (place_cases f (suc k) n c m p y e)
  where
    by : ((c < n) × (f (suc k + c) ≡ y)) ⊎ (p ≡ y) → ((suc c < suc n) × (f (k + suc c) ≡ y)) ⊎ (p ≡ y)
    by (inl (l, q)) = let r : k + suc c ≡ suc k + c = omega arith in inl (omega arith, ap f r ∙ q)
    by (inr q) = inr q

-- ---- the derived policy

module _ (reads writes : List ℕ) (objects : ℕ) (good : matrix_good reads writes objects ≡ true) where
  abbrev P : Policy
  P = policy_in (derived_image reads writes objects)

  g : Good reads writes objects
  g = good_parts reads writes objects good

  places : (meaning P).places ≡ map (file_place reads writes) (count_from 0 objects) ++ replicate (length reads) process_place
  places =
      ap (λ (q : Policy). (meaning q).places) (derived_read reads writes objects good).1
      ∙ ap (λ (m : Meaning). m.places) (derived_means reads writes objects g)

  -- the container of a number, by what it means
  kept : (c : ℕ) (K : Container) → ContainerAt P c K → get_elem? (map (file_place reads writes) (count_from 0 objects) ++ replicate (length reads) process_place) c ≡ some (place_of P.rules K)
  unfolding meaning
  kept c K e = ap (λ (q : List Place). get_elem? q c) (sym places) ∙ mapped (place_of P.rules) P.containers c K e

  own_file : (a : ℕ) → a < objects → (K : Container) × ContainerAt P a K × (place_of P.rules K ≡ file_place reads writes a)
  unfolding meaning
  own_file a l =
      let e : 0 + a ≡ a = omega arith in
      unmapped (place_of P.rules) P.containers a (file_place reads writes a)
      (ap (λ (q : List Place). get_elem? q a) places ∙ file_at (file_place reads writes) 0 objects a (replicate (length reads) process_place) l ∙ ap (λ (x : ℕ). some (file_place reads writes x)) e)

  pub atom_starts : (a c : ℕ) → a < objects → Starts P c (data_atom a) ↔ (c ≡ a)
  unfolding place_of is_file kind_in atom
  atom_starts a c l = (to, from)
    where
      to : Starts P c (data_atom a) → c ≡ a
      to (K, e, f, t, n) = by (place_cases (file_place reads writes) 0 objects c (length reads) process_place (place_of P.rules K) (kept c K e))
        where
          by : ((c < objects) × (file_place reads writes (0 + c) ≡ place_of P.rules K)) ⊎ (process_place ≡ place_of P.rules K) → c ≡ a
          by (inl (m, q)) = let r : 0 + c ≡ c = omega arith in sym r ∙ ap (λ (x : Place). x.atom) q ∙ t
          by (inr q) = clash f (ap is_file (sym (ap (λ (x : Place). x.kind) q)))

      from : c ≡ a → Starts P c (data_atom a)
      from e = subst (λ (x : ℕ). Starts P x (data_atom a)) (sym e) (here (own_file a l))
        where
          here : (K : Container) × ContainerAt P a K × (place_of P.rules K ≡ file_place reads writes a) → Starts P a (data_atom a)
          here (K, q, w) = (K, q, ap (λ (x : Place). is_file x.kind) w, ap (λ (x : Place). x.atom) w, λ z. omega (arith, z, g.few))
