-- The paths of profiles are those that are named, and stand in the order of their first appearance.
use Prim.Native.Nat.{ℕ, ◌<◌}
use native.Mathlib.Omega.{arith}
use native.Mathlib.Decide.{dec_lt}
use mathlib.Core.Path.{◌≡◌, refl, sym, ap, ◌∙◌, subst}
use mathlib.Core.Logic.{◌⊎◌, inl, inr, ⊎_elim, ◌↔◌}
use mathlib.Core.Bool.{Bool, true, false, cond}
use mathlib.Core.List.Memᴰ
use mathlib.Core.List.{List, [], ◌∷◌, ◌++◌, map, append_assoc, append-nil, Memᴰ}
use lib.ListN.{length, get_or, length-append, get_or-append}
use lib.Seq.{get_or-append_seam}
use Rattle.lists.specs.Lists.{every, same_list, known, known_by, position}
use Rattle.lists.proofs.Bools.{or_0, or_1, or_cases, clash, refuted}
use Rattle.lists.proofs.Same.{same_refl, same_eq}
use Rattle.lists.proofs.Every.{every_nil, every_cons, every_imp, every_append}
use Rattle.lists.proofs.Known.{known_more, known_last, known_every, position_lt, position_at, position_stays}
use Rattle.profiles.specs.Profiles.{Profile}
use Rattle.confinement.specs.Confinement.{names_of, with_path, with_paths, paths_of}
use Rattle.confinement.specs.Sentences.{Names}
use Rattle.confinement.proofs.PathsNamed.{path_kept, path_added, position_new}

-- ---- the paths t of the names us

record Appeared (t us : List (List ℕ)) : Type 0 where
  named : (k : ℕ) → k < length t → known (get_or t k []) us ≡ true
  rising : (j k : ℕ) → j < k → k < length t → position (get_or t j []) us < position (get_or t k []) us
  listed : every (λ q. known q t) us ≡ true

-- one more name
module _ (t us : List (List ℕ)) (g : Appeared t us) (r : List ℕ) where
  old_place : (k : ℕ) → k < length t → position (get_or t k []) (us ++ (r ∷ [])) ≡ position (get_or t k []) us
  old_place k l = position_stays same_list (get_or t k []) us (r ∷ []) (g.named k l)

  old_named : (k : ℕ) → k < length t → known (get_or t k []) (us ++ (r ∷ [])) ≡ true
  old_named k l = known_more same_list (get_or t k []) us (r ∷ []) (g.named k l)

  old_rising : (j k : ℕ) → j < k → k < length t → position (get_or t j []) (us ++ (r ∷ [])) < position (get_or t k []) (us ++ (r ∷ []))
  old_rising j k l m = omega (arith, old_place j (omega arith), old_place k m, g.rising j k l m)

  -- it is new: it stands behind those so far, in both lists
  module _ (new : known r t ≡ false) where
    new_place : position r (us ++ (r ∷ [])) ≡ length us
    new_place = position_new r us (refuted (known r us) (λ p. clash (known_every same_list same_eq (λ q. known q t) r us p g.listed) new))

    new_named : (k : ℕ) → k < length (t ++ (r ∷ [])) → known (get_or (t ++ (r ∷ [])) k []) (us ++ (r ∷ [])) ≡ true
    new_named k l = by (dec_lt k (length t))
      where
        by : Dec (k < length t) → known (get_or (t ++ (r ∷ [])) k []) (us ++ (r ∷ [])) ≡ true
        by (yes m) = rw (get_or-append t (r ∷ []) [] k m) (old_named k m)
        by (no m) = let e : k ≡ length t = omega (arith, length-append t (r ∷ [])) in rw (e, get_or-append_seam t r [] []) (known_last same_list r us (same_refl r))

    new_rising : (j k : ℕ) → j < k → k < length (t ++ (r ∷ [])) → position (get_or (t ++ (r ∷ [])) j []) (us ++ (r ∷ [])) < position (get_or (t ++ (r ∷ [])) k []) (us ++ (r ∷ []))
    new_rising j k l m = rw (get_or-append t (r ∷ []) [] j before) (by (dec_lt k (length t)))
      where
        before : j < length t
        before = omega (arith, length-append t (r ∷ []))

        by : Dec (k < length t) → position (get_or t j []) (us ++ (r ∷ [])) < position (get_or (t ++ (r ∷ [])) k []) (us ++ (r ∷ []))
        by (yes n) = rw (get_or-append t (r ∷ []) [] k n) (old_rising j k l n)
        by (no n) =
            let e : k ≡ length t = omega (arith, length-append t (r ∷ [])) in
            rw (e, get_or-append_seam t r [] []) (omega (arith, old_place j before, position_lt same_list (get_or t j []) us (g.named j before), new_place))

  appeared_next : Appeared (with_path t r) (us ++ (r ∷ []))
  unfolding with_path
  appeared_next = by (known r t) refl next_listed
    where
      next_listed : every (λ q. known q (with_path t r)) (us ++ (r ∷ [])) ≡ true
      next_listed =
          every_append (λ q. known q (with_path t r)) us (r ∷ [])
          (every_imp (λ q. known q t) (λ q. known q (with_path t r)) us (λ q h. path_kept q r t h) g.listed)
          (every_cons (λ q. known q (with_path t r)) r [] (path_added r t) (every_nil (λ q. known q (with_path t r))))

      by : (b : Bool) → known r t ≡ b → every (λ q. known q (cond b t (t ++ (r ∷ [])))) (us ++ (r ∷ [])) ≡ true → Appeared (cond b t (t ++ (r ∷ []))) (us ++ (r ∷ []))
      by true d e = record { named = old_named; rising = old_rising; listed = e }
      by false d e = record { named = new_named d; rising = new_rising d; listed = e }

appeared_all : (t us rs : List (List ℕ)) → Appeared t us → Appeared (with_paths t rs) (us ++ rs)
unfolding with_paths
appeared_all t us [] g = rw append-nil g
appeared_all t us (r ∷ rs) g = rw append_assoc at (appeared_all (with_path t r) (us ++ (r ∷ [])) rs (appeared_next t us g r))

appeared : (ps : List Profile) → Appeared (paths_of ps) (names_of ps)
unfolding paths_of
appeared ps =
    appeared_all [] [] (names_of ps)
    (record { named = λ k l. absurd (omega arith); rising = λ j k l m. absurd (omega arith); listed = every_nil (λ q. known q []) })

-- ---- the order

module _ (ps : List Profile) (j k : ℕ) (l : j < length (paths_of ps)) (m : k < length (paths_of ps)) where
  abbrev first : ℕ → ℕ
  first i = position (get_or (paths_of ps) i []) (names_of ps)

  pub paths_order : (j < k) ↔ (first j < first k)
  paths_order = ((λ h. (appeared ps).rising j k h m), (λ h. by (dec_lt j k) (dec_lt k j) h))
    where
      by : Dec (j < k) → Dec (k < j) → first j < first k → j < k
      by (yes d) e h = d
      by (no d) (yes e) h = absurd (omega (arith, (appeared ps).rising k j e l))
      by (no d) (no e) h = let z : j ≡ k = omega arith in absurd (omega (arith, ap first z))

-- ---- what is among them

known_member : (q : List ℕ) (ns : List (List ℕ)) → known q ns ≡ true → Memᴰ q ns
unfolding known_by
known_member q [] h = clash h refl
known_member q (x ∷ ns) h = ⊎_elim (λ p. Memᴰ.head (same_eq q x p)) (λ p. Memᴰ.tail (known_member q ns p)) (or_cases (same_list q x) h)

pub member_known : (q : List ℕ) (ns : List (List ℕ)) → Memᴰ q ns → known q ns ≡ true
unfolding known_by
member_known q [] m = absurd (Memᴰ.not-nil m)
member_known q (x ∷ ns) m =
    ⊎_elim (λ e. or_0 (same_list q x) (known q ns) (ap (same_list q) (sym e) ∙ same_refl q)) (λ n. or_1 (same_list q x) (known q ns) (member_known q ns n)) (Memᴰ.cases_cons m)

abbrev line_paths : Profile → List (List ℕ)
line_paths p = map (λ e. e.path) p.entries

named_by : (q : List ℕ) (ps : List Profile) → Memᴰ q (names_of ps) → (p : Profile) × Memᴰ p ps × Names p q
unfolding names_of
named_by q [] m = absurd (Memᴰ.not-nil m)
named_by q (p ∷ ps) m = by (Memᴰ.cases_cons m) (named_by q ps)
  where
    on : Memᴰ q (line_paths p) ⊎ Memᴰ q (names_of ps) → (Memᴰ q (names_of ps) → (x : Profile) × Memᴰ x ps × Names x q) → (x : Profile) × Memᴰ x (p ∷ ps) × Names x q
    on (inl a) ih = let e = Memᴰ.of_map (λ e. e.path) p.entries a in (p, Memᴰ.head refl, inr (e.0, e.1, sym e.2))
    on (inr b) ih = let r = ih b in (r.0, Memᴰ.tail r.1, r.2)

    by : (q ≡ p.path) ⊎ Memᴰ q (line_paths p ++ names_of ps) → (Memᴰ q (names_of ps) → (x : Profile) × Memᴰ x ps × Names x q) → (x : Profile) × Memᴰ x (p ∷ ps) × Names x q
    by (inl e) ih = (p, Memᴰ.head refl, inl e)
    by (inr n) ih = on (Memᴰ.append_cases (line_paths p) n) ih

names_in : (q : List ℕ) (ps : List Profile) (p : Profile) → Memᴰ p ps → Names p q → Memᴰ q (names_of ps)
unfolding names_of
names_in q [] p m n = absurd (Memᴰ.not-nil m)
names_in q (x ∷ ps) p m n = by (Memᴰ.cases_cons m) (λ k. names_in q ps p k n)
  where
    here : Names x q → Memᴰ q (x.path ∷ (line_paths x ++ names_of ps))
    here (inl e) = Memᴰ.head e
    here (inr (e, k, z)) = Memᴰ.tail (Memᴰ.append_left (names_of ps) (Memᴰ.cast z (Memᴰ.map (λ e. e.path) k)))

    by : (p ≡ x) ⊎ Memᴰ p ps → (Memᴰ p ps → Memᴰ q (names_of ps)) → Memᴰ q (x.path ∷ (line_paths x ++ names_of ps))
    by (inl e) ih = here (subst (λ (y : Profile). Names y q) e n)
    by (inr k) ih = Memᴰ.tail (Memᴰ.append_right (line_paths x) (ih k))

pub paths_exactly : (ps : List Profile) (q : List ℕ) → (known q (paths_of ps) ≡ true) ↔ ((p : Profile) × Memᴰ p ps × Names p q)
paths_exactly ps q = (to, from)
  where
    to : known q (paths_of ps) ≡ true → (p : Profile) × Memᴰ p ps × Names p q
    to h =
        let n : known (get_or (paths_of ps) (position q (paths_of ps)) []) (names_of ps) ≡ true = (appeared ps).named (position q (paths_of ps)) (position_lt same_list q (paths_of ps) h) in
        named_by q ps (known_member q (names_of ps) (rw (position_at same_list same_eq [] q (paths_of ps) h) at n))

    from : (p : Profile) × Memᴰ p ps × Names p q → known q (paths_of ps) ≡ true
    from (p, m, n) = known_every same_list same_eq (λ x. known x (paths_of ps)) q (names_of ps) (member_known q (names_of ps) (names_in q ps p m n)) (appeared ps).listed
