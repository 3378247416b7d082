-- No more programs than paths, and a program with one more entry.
use Prim.Native.Nat.{ℕ, zero, suc, ◌≤◌, ◌<◌}
use native.Mathlib.Omega.{arith}
use native.Mathlib.Decide.{dec_lt}
use mathlib.Core.Path.{◌≡◌, refl, sym, ap, ◌∙◌}
use mathlib.Core.Logic.{◌⊎◌, inl, inr}
use mathlib.Core.Bool.{Bool, true, false, not, cond, ◌||◌}
use mathlib.Core.List.{List, [], ◌∷◌, ◌++◌, map, append-nil, append_assoc}
use lib.Bits.{bit_or, or_zero_r}
use lib.ListN.{length, get_or, replicate, length-map, length-replicate, get_or-replicate, get_or-eq_default}
use borrow.Author.Tests.{not-true}
use Rattle.lists.specs.Lists.{every, same_list, known, known_by}
use Rattle.lists.proofs.Bools.{and_0, and_1, or_0, or_1, or_cases, clash, refuted}
use Rattle.lists.proofs.Same.{same_eq}
use Rattle.lists.proofs.Every.{every_0, every_1, every_nil, every_cons, every_map}
use Rattle.profiles.specs.Profiles.{Mode, PathEntry, Profile}
use Rattle.profiles.specs.Reading.{Line, opens, enters, closes, lines_of}
use Rattle.profiles.specs.Scanning.{with_modes, mode_bits}
use Rattle.profiles.specs.Texts.{no_repeat, profiled_once}
use Rattle.confinement.specs.Confinement.{paths_of, modes_among, modes_on}
use Rattle.confinement.specs.Tables.{no_profile}
use Rattle.confinement.proofs.ModeBits.{bits_append}
use Rattle.confinement.proofs.PathsNamed.{profiles_known}
use Rattle.confinement.proofs.LineWalks.{entered, opened, with_entry, naming_lines}

-- ---- no more programs than paths

-- the paths but the first that is q
without : List ℕ → List (List ℕ) → List (List ℕ)
without q [] = []
without q (x ∷ ns) = cond (same_list q x) ns (x ∷ without q ns)

without_length : (q : List ℕ) (ns : List (List ℕ)) → known q ns ≡ true → suc (length (without q ns)) ≡ length ns
unfolding known_by without
without_length q [] h = clash h refl
without_length q (x ∷ ns) h = by (same_list q x) h (without_length q ns)
  where
    by : (b : Bool) → (b || known q ns) ≡ true → (known q ns ≡ true → suc (length (without q ns)) ≡ length ns)
        → suc (length (cond b ns (x ∷ without q ns))) ≡ suc (length ns)
    by true g ih = refl
    by false g ih = ap suc (ih g)

without_known : (q y : List ℕ) (ns : List (List ℕ)) → same_list q y ≡ false → known y ns ≡ true → known y (without q ns) ≡ true
unfolding known_by without
without_known q y [] d h = h
without_known q y (x ∷ ns) d h = by (same_list q x) refl (or_cases (same_list y x) h) (without_known q y ns d)
  where
    by : (b : Bool) → same_list q x ≡ b → (same_list y x ≡ true) ⊎ (known y ns ≡ true) → (known y ns ≡ true → known y (without q ns) ≡ true)
        → known y (cond b ns (x ∷ without q ns)) ≡ true
    by true e (inl p) ih = clash (ap (same_list q) (same_eq y x p) ∙ e) d
    by true e (inr p) ih = p
    by false e (inl p) ih = or_0 (same_list y x) (known y (without q ns)) p
    by false e (inr p) ih = or_1 (same_list y x) (known y (without q ns)) (ih p)

others_known : (q : List ℕ) (ys ns : List (List ℕ)) → known q ys ≡ false → every (λ y. known y ns) ys ≡ true → every (λ y. known y (without q ns)) ys ≡ true
unfolding known_by
others_known q [] ns d h = every_nil (λ y. known y (without q ns))
others_known q (y ∷ ys) ns d h =
    every_cons (λ y. known y (without q ns)) y ys
    (without_known q y ns (refuted (same_list q y) (λ p. clash (or_0 (same_list q y) (known q ys) p) d)) (every_0 (λ y. known y ns) y ys h))
    (others_known q ys ns (refuted (known q ys) (λ p. clash (or_1 (same_list q y) (known q ys) p) d)) (every_1 (λ y. known y ns) y ys h))

-- a list without repeats whose members are all among others is no longer than these
no_more : (xs ns : List (List ℕ)) → no_repeat xs ≡ true → every (λ x. known x ns) xs ≡ true → length xs ≤ length ns
unfolding no_repeat
no_more [] ns r h = omega arith
no_more (x ∷ xs) ns r h =
    omega (
      arith,
      without_length x ns (every_0 (λ x. known x ns) x xs h),
      no_more xs (without x ns) (and_1 (not (known x xs)) r)
          (others_known x xs ns (not-true (known x xs) (and_0 (not (known x xs)) (no_repeat xs) r)) (every_1 (λ x. known x ns) x xs h)),
    )

pub few_programs : (ps : List Profile) → profiled_once ps ≡ true → length ps ≤ length (paths_of ps)
unfolding profiled_once
few_programs ps h =
    omega (
      arith,
      length-map ps (λ p. p.path),
      no_more (map (λ p. p.path) ps) (paths_of ps) h
          (every_map (λ p. known p.path (paths_of ps)) (λ q. known q (paths_of ps)) (λ p. p.path) ps (λ p e. e) (profiles_known ps)),
    )

-- ---- one more entry

pub entered_before : (ps : List Profile) (e : PathEntry) (j : ℕ) → suc j < length ps → get_or (entered ps e) j no_profile ≡ get_or ps j no_profile
unfolding entered
entered_before [] e j h = absurd (omega arith)
entered_before (p ∷ []) e j h = absurd (omega arith)
entered_before (p ∷ q ∷ ps) e zero h = refl
entered_before (p ∷ q ∷ ps) e (suc j) h = entered_before (q ∷ ps) e j (omega arith)

pub entered_at : (ps : List Profile) (e : PathEntry) (j : ℕ) → suc j ≡ length ps → get_or (entered ps e) j no_profile ≡ with_entry (get_or ps j no_profile) e
unfolding entered
entered_at [] e j h = absurd (omega arith)
entered_at (p ∷ []) e zero h = refl
entered_at (p ∷ []) e (suc j) h = absurd (omega arith)
entered_at (p ∷ q ∷ ps) e zero h = absurd (omega arith)
entered_at (p ∷ q ∷ ps) e (suc j) h = entered_at (q ∷ ps) e j (omega arith)

among_last : (es : List PathEntry) (e : PathEntry) (q : List ℕ) → modes_among (es ++ (e ∷ [])) q ≡ modes_among es q ++ cond (same_list q e.path) e.modes []
unfolding modes_among
among_last [] e q = by (same_list q e.path)
  where
    by : (b : Bool) → cond b (e.modes ++ []) [] ≡ cond b e.modes []
    by true = append-nil e.modes
    by false = refl
among_last (f ∷ es) e q = by (same_list q f.path) (among_last es e q)
  where
    by : (b : Bool) → modes_among (es ++ (e ∷ [])) q ≡ modes_among es q ++ cond (same_list q e.path) e.modes []
        → cond b (f.modes ++ modes_among (es ++ (e ∷ [])) q) (modes_among (es ++ (e ∷ [])) q)
        ≡ cond b (f.modes ++ modes_among es q) (modes_among es q) ++ cond (same_list q e.path) e.modes []
    by true ih = ap (λ (x : List Mode). f.modes ++ x) ih ∙ sym (append_assoc f.modes (modes_among es q) (cond (same_list q e.path) e.modes []))
    by false ih = ih

pub bits_last : (p : Profile) (e : PathEntry) (q : List ℕ)
    → mode_bits (modes_on (with_entry p e) q) ≡ bit_or (mode_bits (modes_on p q)) (mode_bits (cond (same_list q e.path) e.modes []))
unfolding modes_on
bits_last p e q = ap mode_bits (among_last p.entries e q) ∙ bits_append (modes_among p.entries q) (cond (same_list q e.path) e.modes [])

pub no_bits : (p q : List ℕ) → mode_bits (modes_on (opened p) q) ≡ 0
unfolding modes_on modes_among mode_bits with_modes
no_bits p q = refl

-- no more modes
pub nothing_more : (x : ℕ) → bit_or x (mode_bits []) ≡ x
unfolding mode_bits with_modes
nothing_more x = or_zero_r x

-- the lines of profiles begin with that of a profile
abbrev is_opening : List Line → ℕ
is_opening [] = 1
is_opening (opens p ∷ ls) = 1
is_opening (enters e ∷ ls) = 0
is_opening (closes ∷ ls) = 0

opening_first : (ps : List Profile) → is_opening (naming_lines (lines_of ps)) ≡ 1
unfolding lines_of naming_lines
opening_first [] = refl
opening_first (p ∷ ps) = refl

pub not_first : (ps : List Profile) (e : PathEntry) (ls : List Line) → naming_lines (lines_of ps) ≡ enters e ∷ ls → ⊥
not_first ps e ls h = omega (arith, opening_first ps, ap is_opening h)

pub get_d_zeros : (n i : ℕ) → ◌≡◌ {A = ℕ} (get_or (replicate n 0) i 0) 0
get_d_zeros n i = by (dec_lt i n)
  where
    by : Dec (i < n) → ◌≡◌ {A = ℕ} (get_or (replicate n 0) i 0) 0
    by (yes l) = get_or-replicate n i 0 0 l
    by (no l) = get_or-eq_default (replicate n 0) 0 (omega (arith, length-replicate {A = ℕ} n 0))
