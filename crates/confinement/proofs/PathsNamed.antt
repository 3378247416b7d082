-- The paths in order of first appearance: each that is named is among them.
use Prim.Native.Nat.{ℕ, zero, suc, ◌<◌}
use native.Mathlib.Omega.{arith}
use native.Mathlib.Decide.{dec_lt}
use mathlib.Core.Path.{◌≡◌, refl, ap, ◌∙◌}
use mathlib.Core.Bool.{Bool, true, false, cond, ◌||◌}
use mathlib.Core.List.{List, [], ◌∷◌, ◌++◌, map}
use lib.Dec.{eqb}
use lib.ListN.{length, get_or, length-append}
use borrow.Author.Tests.{eqb-true, eq-eqb}
use Rattle.lists.specs.Lists.{every, same_list, known, known_by, position, position_by}
use Rattle.lists.proofs.Bools.{or_0, or_1, clash, same_test}
use Rattle.lists.proofs.Same.{same_refl, same_eq}
use Rattle.lists.proofs.Every.{every_0, every_1, every_nil, every_cons, every_right}
use Rattle.lists.proofs.Known.{known_more, known_last, position_at, position_stays}
use Rattle.profiles.specs.Profiles.{Profile}
use Rattle.confinement.specs.Confinement.{names_of, with_path, with_paths, paths_of}

-- ---- one more path

pub path_kept : (q x : List ℕ) (ns : List (List ℕ)) → known q ns ≡ true → known q (with_path ns x) ≡ true
unfolding with_path
path_kept q x ns h = by (known x ns)
  where
    by : (b : Bool) → known q (cond b ns (ns ++ (x ∷ []))) ≡ true
    by true = h
    by false = known_more same_list q ns (x ∷ []) h

pub path_added : (q : List ℕ) (ns : List (List ℕ)) → known q (with_path ns q) ≡ true
unfolding with_path
path_added q ns = by (known q ns) refl
  where
    by : (b : Bool) → known q ns ≡ b → known q (cond b ns (ns ++ (q ∷ []))) ≡ true
    by true e = e
    by false e = known_last same_list q ns (same_refl q)

-- ---- many

pub paths_kept : (q : List ℕ) (ns xs : List (List ℕ)) → known q ns ≡ true → known q (with_paths ns xs) ≡ true
unfolding with_paths
paths_kept q ns [] h = h
paths_kept q ns (x ∷ xs) h = paths_kept q (with_path ns x) xs (path_kept q x ns h)

pub paths_named : (ns xs : List (List ℕ)) → every (λ q. known q (with_paths ns xs)) xs ≡ true
unfolding with_paths
paths_named ns [] = every_nil (λ q. known q ns)
paths_named ns (x ∷ xs) =
    every_cons (λ q. known q (with_paths (with_path ns x) xs)) x xs (paths_kept x (with_path ns x) xs (path_added x ns)) (paths_named (with_path ns x) xs)

-- ---- the paths of profiles

profiles_named : (f : List ℕ → Bool) (ps : List Profile) → every f (names_of ps) ≡ true → every (λ p. f p.path) ps ≡ true
unfolding names_of
profiles_named f [] h = every_nil (λ p. f p.path)
profiles_named f (p ∷ ps) h =
    every_cons (λ p. f p.path) p ps (every_0 f p.path (map (λ e. e.path) p.entries ++ names_of ps) h)
    (profiles_named f ps (every_right f (map (λ e. e.path) p.entries) (names_of ps) (every_1 f p.path (map (λ e. e.path) p.entries ++ names_of ps) h)))

pub profiles_known : (ps : List Profile) → every (λ p. known p.path (paths_of ps)) ps ≡ true
unfolding paths_of
profiles_known ps = profiles_named (λ q. known q (with_paths [] (names_of ps))) ps (paths_named [] (names_of ps))

-- ---- no path stands twice among them: each has the number of its place

pub record Distinct (ns : List (List ℕ)) : Type 0 where
  pub placed : (k : ℕ) → k < length ns → position (get_or ns k []) ns ≡ k

position_first : (q : List ℕ) (ns : List (List ℕ)) → position q (q ∷ ns) ≡ 0
unfolding position_by
position_first q ns = rw (same_refl q)

-- a new path stands behind the others
pub position_new : (q : List ℕ) (ns : List (List ℕ)) → known q ns ≡ false → position q (ns ++ (q ∷ [])) ≡ length ns
unfolding position_by known_by
position_new q [] h = position_first q []
position_new q (x ∷ ns) h = by (same_list q x) refl h (position_new q ns)
  where
    by : (b : Bool) → same_list q x ≡ b → (b || known q ns) ≡ false → (known q ns ≡ false → position q (ns ++ (q ∷ [])) ≡ length ns)
        → cond b 0 (suc (position q (ns ++ (q ∷ [])))) ≡ suc (length ns)
    by true e g ih = clash (refl {a = true}) g
    by false e g ih = ap suc (ih g)

known_at : (ns : List (List ℕ)) (k : ℕ) → k < length ns → known (get_or ns k []) ns ≡ true
unfolding known_by
known_at [] k h = absurd (omega arith)
known_at (x ∷ ns) zero h = or_0 (same_list x x) (known x ns) (same_refl x)
known_at (x ∷ ns) (suc k) h = or_1 (same_list (get_or ns k []) x) (known (get_or ns k []) ns) (known_at ns k (omega arith))

last_at : (ns : List (List ℕ)) (q : List ℕ) → get_or (ns ++ (q ∷ [])) (length ns) [] ≡ q
last_at [] q = refl
last_at (x ∷ ns) q = last_at ns q

before_at : (ns ms : List (List ℕ)) (k : ℕ) → k < length ns → get_or (ns ++ ms) k [] ≡ get_or ns k []
before_at [] ms k h = absurd (omega arith)
before_at (x ∷ ns) ms zero h = refl
before_at (x ∷ ns) ms (suc k) h = before_at ns ms k (omega arith)

pub distinct_path : (ns : List (List ℕ)) (q : List ℕ) → Distinct ns → Distinct (with_path ns q)
unfolding with_path
distinct_path ns q d = by (known q ns) refl
  where
    by : (b : Bool) → known q ns ≡ b → Distinct (cond b ns (ns ++ (q ∷ [])))
    by true e = d
    by false e = record { placed = here }
      where
        here : (k : ℕ) → k < length (ns ++ (q ∷ [])) → position (get_or (ns ++ (q ∷ [])) k []) (ns ++ (q ∷ [])) ≡ k
        here k h = on (dec_lt k (length ns))
          where
            on : Dec (k < length ns) → position (get_or (ns ++ (q ∷ [])) k []) (ns ++ (q ∷ [])) ≡ k
            on (yes l) = rw (before_at ns (q ∷ []) k l) (position_stays same_list (get_or ns k []) ns (q ∷ []) (known_at ns k l) ∙ d.placed k l)
            on (no l) =
                let z : k ≡ length ns = omega (arith, length-append ns (q ∷ [])) in
                rw (z, last_at ns q) (position_new q ns e)

pub distinct_paths : (ns xs : List (List ℕ)) → Distinct ns → Distinct (with_paths ns xs)
unfolding with_paths
distinct_paths ns [] d = d
distinct_paths ns (x ∷ xs) d = distinct_paths (with_path ns x) xs (distinct_path ns x d)

pub paths_distinct : (ps : List Profile) → Distinct (paths_of ps)
unfolding paths_of
paths_distinct ps = distinct_paths [] (names_of ps) (record { placed = λ k h. absurd (omega arith) })

-- so a path that is among them has the number k exactly if it is the k-th
pub number_tells : (ns : List (List ℕ)) → Distinct ns → (x : List ℕ) → known x ns ≡ true → (k : ℕ) → k < length ns
    → eqb (position x ns) k ≡ same_list (get_or ns k []) x
number_tells ns d x h k l =
    same_test (eqb (position x ns) k) (same_list (get_or ns k []) x)
    (λ e. let z : position x ns ≡ k = eqb-true (position x ns) k e in rw (← z, position_at same_list same_eq [] x ns h) (same_refl x))
    (λ e. let z : get_or ns k [] ≡ x = same_eq (get_or ns k []) x e in eq-eqb (position x ns) k (rw (← z) (d.placed k l)))
