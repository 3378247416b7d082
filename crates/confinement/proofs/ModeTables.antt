-- The tables of numbers tell of the profiles: run mixtures by rows, the programs of a path by columns.
use Prim.Native.Nat.{ℕ, zero, suc, ◌+◌, ◌*◌, ◌^◌, ◌≤◌, ◌<◌}
use native.Mathlib.Omega.{arith}
use mathlib.Core.Path.{◌≡◌, refl, sym, ap, ap₂, ◌∙◌}
use mathlib.Core.Bool.{Bool, true, false, cond}
use mathlib.Core.List.{List, [], ◌∷◌, ◌++◌, map}
use lib.Bits.{bit_or, or_zero_r}
use lib.Dec.{eqb}
use lib.ListN.{length, get_or, take, drop, length-take, length-drop, length-map}
use lib.Seq.{ext_get_or, get_or-take, get_or-drop}
use Rattle.lists.specs.Lists.{same_list, position}
use Rattle.lists.proofs.Places.{map_at}
use Rattle.rules.specs.Answers.{data_width}
use Rattle.image.specs.Policy.{unrestricted_rule}
use Rattle.profiles.specs.Profiles.{Mode, Profile}
use Rattle.profiles.specs.Scanning.{mode_bits}
use Rattle.confinement.specs.Confinement.{some_of, reading, executing, writing, unconfined, inheriting, confined, modes_on, file_atoms}
use Rattle.confinement.specs.Confinement.{atoms_from, run_mixture, programs_with, profiles_at, or_else, if_some, permit_mixtures, run_mixtures}
use Rattle.confinement.specs.Tables.{no_profile, ProgramTable, reading_bits, executing_bits, writing_bits, unconfined_bits}
use Rattle.confinement.specs.Tables.{inheriting_bits, confined_bits, meets, file_bits, row_atoms, row_mixture, list_from, row_at}
use Rattle.confinement.specs.Tables.{mixtures, column_at, chosen_by, chosen_at, if_any, permit_from, inherited_from, run_from}
use Rattle.confinement.proofs.ModeBits.{Spelt, some_bits, reading_spelt, executing_spelt, writing_spelt, unconfined_spelt, inheriting_spelt, confined_spelt}

-- ---- run mixtures

file_bits_lem : (k : ℕ) (ms : List Mode) → file_bits k (mode_bits ms) ≡ file_atoms k ms
unfolding file_bits file_atoms
file_bits_lem k ms =
    ap₂ (λ (a b : Bool). bit_or (cond a (2 ^ k) 0) (cond b (2 ^ (data_width + k)) 0))
    (sym (some_bits reading reading_bits reading_spelt ms)) (sym (some_bits executing executing_bits executing_spelt ms))

abbrev pub row_of : List (List ℕ) → Profile → List ℕ
row_of ns p = map (λ q. mode_bits (modes_on p q)) ns

row_atoms_lem : (k : ℕ) (ns : List (List ℕ)) (p : Profile) → row_atoms k (row_of ns p) ≡ atoms_from k ns p
unfolding row_atoms atoms_from
row_atoms_lem k [] p = refl
row_atoms_lem k (q ∷ ns) p = ap₂ bit_or (file_bits_lem k (modes_on p q)) (row_atoms_lem (suc k) ns p)

pub row_mixture_lem : (ns : List (List ℕ)) (p : Profile) → row_mixture (position p.path ns) (row_of ns p) ≡ run_mixture ns p
unfolding row_mixture run_mixture
row_mixture_lem ns p = ap (bit_or (2 ^ (data_width + position p.path ns))) (row_atoms_lem 0 ns p)

-- ---- the programs of a path

abbrev pub bits_on : List ℕ → List Profile → List ℕ
bits_on q ps = map (λ p. mode_bits (modes_on p q)) ps

module _ (ns : List (List ℕ)) (q : List ℕ) where
  chosen_with : (wanted : List Mode) (w more : ℕ) → Spelt wanted w → (ps : List Profile)
      → chosen_by w more (bits_on q ps) (map (run_mixture ns) ps) ≡ map (λ p. bit_or (run_mixture ns p) more) (programs_with wanted q ps)
  unfolding chosen_by programs_with
  chosen_with wanted w more told [] = refl
  chosen_with wanted w more told (p ∷ ps) = by (some_of wanted (modes_on p q)) (some_bits wanted w told (modes_on p q)) (chosen_with wanted w more told ps)
    where
      by : (b : Bool) → b ≡ meets (mode_bits (modes_on p q)) w
          → chosen_by w more (bits_on q ps) (map (run_mixture ns) ps) ≡ map (λ p. bit_or (run_mixture ns p) more) (programs_with wanted q ps)
          → cond (meets (mode_bits (modes_on p q)) w) (bit_or (run_mixture ns p) more ∷ chosen_by w more (bits_on q ps) (map (run_mixture ns) ps))
          (chosen_by w more (bits_on q ps) (map (run_mixture ns) ps))
          ≡ map (λ p. bit_or (run_mixture ns p) more) (cond b (p ∷ programs_with wanted q ps) (programs_with wanted q ps))
      by true e ih = rw (← e) (ap (λ (l : List ℕ). bit_or (run_mixture ns p) more ∷ l) ih)
      by false e ih = rw (← e) ih

  -- the own path of p has this number exactly if it is q
  abbrev Tells : ℕ → Profile → Type 0
  Tells k p = eqb (position p.path ns) k ≡ same_list q p.path

  chosen_own : (k : ℕ) (ps : List Profile) → ((j : ℕ) → j < length ps → Tells k (get_or ps j no_profile))
      → chosen_at k (map (λ p. position p.path ns) ps) (map (run_mixture ns) ps) ≡ map (run_mixture ns) (profiles_at q ps)
  unfolding chosen_at profiles_at
  chosen_own k [] t = refl
  chosen_own k (p ∷ ps) t = by (same_list q p.path) (t 0 (omega arith)) (chosen_own k ps (λ j l. t (suc j) (omega arith)))
    where
      by : (b : Bool) → eqb (position p.path ns) k ≡ b
          → chosen_at k (map (λ p. position p.path ns) ps) (map (run_mixture ns) ps) ≡ map (run_mixture ns) (profiles_at q ps)
          → cond (eqb (position p.path ns) k) (run_mixture ns p ∷ chosen_at k (map (λ p. position p.path ns) ps) (map (run_mixture ns) ps))
          (chosen_at k (map (λ p. position p.path ns) ps) (map (run_mixture ns) ps))
          ≡ map (run_mixture ns) (cond b (p ∷ profiles_at q ps) (profiles_at q ps))
      by true e ih = rw e (ap (λ (l : List ℕ). run_mixture ns p ∷ l) ih)
      by false e ih = rw e ih

  any_some : (f : Profile → ℕ) (ps : List Profile) (r z : List ℕ) → if_any (map f ps) r z ≡ if_some ps r z
  unfolding if_any if_some
  any_some f [] r z = refl
  any_some f (p ∷ ps) r z = refl

  bare : (ps : List Profile) → map (λ p. bit_or (run_mixture ns p) 0) ps ≡ map (run_mixture ns) ps
  bare [] = refl
  bare (p ∷ ps) = ap₂ ◌∷◌ (or_zero_r (run_mixture ns p)) (bare ps)

  pub permit_from_lem : (k : ℕ) (ps : List Profile) → permit_from k (bits_on q ps) (map (run_mixture ns) ps) ≡ permit_mixtures ns ps k q
  unfolding permit_from permit_mixtures
  permit_from_lem k ps = ap (λ (l : List ℕ). or_else l (2 ^ k ∷ [])) (chosen_with writing writing_bits (2 ^ k) writing_spelt ps)

  pub run_from_lem : (k : ℕ) (ps : List Profile) → ((j : ℕ) → j < length ps → Tells k (get_or ps j no_profile))
      → run_from k (map (λ p. position p.path ns) ps) (bits_on q ps) (map (run_mixture ns) ps) ≡ run_mixtures ns ps q
  unfolding run_from inherited_from run_mixtures
  run_from_lem k ps t =
      let last : List ℕ = if_any (chosen_by confined_bits 0 (bits_on q ps) (map (run_mixture ns) ps)) [] unrestricted_rule in
      let rest : List ℕ = or_else (chosen_by inheriting_bits 0 (bits_on q ps) (map (run_mixture ns) ps)) last in
      ap₂ or_else (chosen_own k ps t)
      (ap (λ (l : List ℕ). if_any l unrestricted_rule rest) (chosen_with unconfined unconfined_bits 0 unconfined_spelt ps)
      ∙ any_some (λ p. bit_or (run_mixture ns p) 0) (programs_with unconfined q ps) unrestricted_rule rest
      ∙ ap (if_some (programs_with unconfined q ps) unrestricted_rule)
      (ap₂ or_else (chosen_with inheriting inheriting_bits 0 inheriting_spelt ps ∙ bare (programs_with inheriting q ps))
      (ap (λ (l : List ℕ). if_any l [] unrestricted_rule) (chosen_with confined confined_bits 0 confined_spelt ps)
      ∙ any_some (λ p. bit_or (run_mixture ns p) 0) (programs_with confined q ps) [] unrestricted_rule)))

-- ---- lists by place

pub list_snoc : (f : ℕ → ℕ) (j n : ℕ) → list_from f j (suc n) ≡ list_from f j n ++ (f (j + n) ∷ [])
unfolding list_from
list_snoc f j zero = let e : j ≡ j + 0 = omega arith in ap (λ (i : ℕ). f i ∷ []) e
list_snoc f j (suc n) =
    let e : suc j + n ≡ j + suc n = omega arith in
    ap (λ (l : List ℕ). f j ∷ l) (list_snoc f (suc j) n ∙ ap (λ (i : ℕ). list_from f (suc j) n ++ (f i ∷ [])) e)

pub list_length : (f : ℕ → ℕ) (j n : ℕ) → length (list_from f j n) ≡ n
unfolding list_from
list_length f j zero = refl
list_length f j (suc n) = ap suc (list_length f (suc j) n)

-- the members are those of a list of profiles
list_map : (f : ℕ → ℕ) (g : Profile → ℕ) (j : ℕ) (ps : List Profile) → ((i : ℕ) → i < length ps → f (j + i) ≡ g (get_or ps i no_profile)) → list_from f j (length ps) ≡ map g ps
unfolding list_from
list_map f g j [] h = refl
list_map f g j (p ∷ ps) h =
    let z : j ≡ j + 0 = omega arith in
    ap₂ ◌∷◌ (ap f z ∙ h 0 (omega arith)) (list_map f g (suc j) ps (λ i l. let e : suc j + i ≡ j + suc i = omega arith in ap f e ∙ h (suc i) (omega arith)))

-- ---- the tables

module _ (ns : List (List ℕ)) (ps : List Profile) (own modes : List ℕ) (m : ℕ) (t : ProgramTable ns ps own modes m) (few : length ns ≤ data_width) where
  row_here : (j : ℕ) → j < m → row_at modes (length ns) j ≡ row_of ns (get_or ps j no_profile)
  row_here j l =
      ext_get_or 0 (row_at modes (length ns) j) (row_of ns (get_or ps j no_profile)) long
      (λ k h. get_or-take (length ns) (drop (j * data_width) modes) k 0 (less k h) ∙ get_or-drop (j * data_width) modes k 0 ∙ t.cells j k l (less k h)
      ∙ sym (map_at (λ q. mode_bits (modes_on (get_or ps j no_profile) q)) ns k [] 0 (less k h)))
    where
      wide : length (row_at modes (length ns) j) ≡ length ns
      wide = omega (arith, length-take (length ns) (drop (j * data_width) modes), length-drop (j * data_width) modes, t.modes_long, t.few)

      long : length (row_at modes (length ns) j) ≡ length (row_of ns (get_or ps j no_profile))
      long = wide ∙ sym (length-map ns (λ q. mode_bits (modes_on (get_or ps j no_profile) q)))

      less : (k : ℕ) → k < length (row_at modes (length ns) j) → k < length ns
      less k h = omega (arith, wide)

  pub table_runs : mixtures own modes (length ns) m ≡ map (run_mixture ns) ps
  table_runs =
      ap (list_from (λ j. row_mixture (get_or own j 0) (row_at modes (length ns) j)) 0) t.count
      ∙ list_map (λ j. row_mixture (get_or own j 0) (row_at modes (length ns) j)) (run_mixture ns) 0 ps here
    where
      here : (i : ℕ) → i < length ps → row_mixture (get_or own (0 + i) 0) (row_at modes (length ns) (0 + i)) ≡ run_mixture ns (get_or ps i no_profile)
      here i l =
          let z : 0 + i ≡ i = omega arith in
          let h : i < m = omega (arith, t.count) in
          rw (z, t.owns i h, row_here i h) (row_mixture_lem ns (get_or ps i no_profile))

  pub table_column : (k : ℕ) → k < length ns → column_at modes k m ≡ bits_on (get_or ns k []) ps
  table_column k l =
      ap (list_from (λ j. get_or modes (j * data_width + k) 0) 0) t.count
      ∙ list_map (λ j. get_or modes (j * data_width + k) 0) (λ p. mode_bits (modes_on p (get_or ns k []))) 0 ps
      (λ i h. let z : 0 + i ≡ i = omega arith in let g : i < m = omega (arith, t.count) in rw z (t.cells i k g l))

  pub table_own : take m own ≡ map (λ p. position p.path ns) ps
  table_own =
      ext_get_or 0 (take m own) (map (λ p. position p.path ns) ps)
      (wide ∙ t.count ∙ sym (length-map ps (λ p. position p.path ns)))
      (λ j h. let l : j < m = omega (arith, wide) in get_or-take m own j 0 l ∙ t.owns j l ∙ sym (map_at (λ p. position p.path ns) ps j no_profile 0 (omega (arith, t.count))))
    where
      wide : length (take m own) ≡ m
      wide = omega (arith, length-take m own, t.own_long, t.few)
