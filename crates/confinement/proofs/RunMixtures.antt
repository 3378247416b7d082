-- The run mixture of a program, atom by atom.
use Prim.Native.Nat.{ℕ, zero, suc, ◌+◌, ◌^◌, ◌≤◌, ◌<◌}
use native.Mathlib.Decide.{ℕ_discrete}
use native.Mathlib.Omega.{arith}
use mathlib.Core.Path.{◌≡◌, refl, sym, ap, ◌∙◌}
use mathlib.Core.Logic.{◌⊎◌, inl, inr, ⊎_elim, ◌↔◌}
use mathlib.Core.Bool.{Bool, true, false, cond}
use mathlib.Core.List.{List, [], ◌∷◌}
use lib.Pow.{pow_pos}
use lib.Bits.{bit_or}
use lib.ListN.{length, get_or}
use Rattle.lists.specs.Lists.{known, position, same_list}
use Rattle.lists.proofs.Bools.{clash}
use Rattle.lists.proofs.Same.{same_eq}
use Rattle.lists.proofs.Known.{position_at, position_lt}
use Rattle.rules.specs.Sets.{atom}
use Rattle.rules.specs.Answers.{data_width}
use Rattle.rules.proofs.SetLaws.{atom_or, atom_above, single_same, single_other, or_has}
use Rattle.profiles.specs.Profiles.{Mode, Profile}
use Rattle.confinement.specs.Confinement.{some_of, reading, executing, modes_on, file_atoms, atoms_from, run_mixture}
use Rattle.confinement.proofs.PathsNamed.{Distinct}

-- ---- the atoms of one path

none_at : (i : ℕ) → atom 0 i ≡ 0
none_at i = atom_above 0 i (pow_pos i)

if_here : (b : Bool) (k : ℕ) → atom (cond b (2 ^ k) 0) k ≡ cond b 1 0
if_here true k = single_same k
if_here false k = none_at k

if_other : (b : Bool) (k i : ℕ) → (i ≡ k → ⊥) → atom (cond b (2 ^ k) 0) i ≡ 0
if_other true k i d = single_other k i d
if_other false k i d = none_at i

module _ (k : ℕ) (ms : List Mode) where
  abbrev data_atom : ℕ
  data_atom = cond (some_of reading ms) (2 ^ k) 0

  abbrev running_atom : ℕ
  running_atom = cond (some_of executing ms) (2 ^ (data_width + k)) 0

  file_data : atom (file_atoms k ms) k ≡ cond (some_of reading ms) 1 0
  unfolding file_atoms
  file_data = omega (arith, atom_or data_atom running_atom k, if_here (some_of reading ms) k, if_other (some_of executing ms) (data_width + k) k (λ e. omega arith))

  file_running : atom (file_atoms k ms) (data_width + k) ≡ cond (some_of executing ms) 1 0
  unfolding file_atoms
  file_running =
      omega (arith, atom_or data_atom running_atom (data_width + k), if_other (some_of reading ms) k (data_width + k) (λ e. omega arith), if_here (some_of executing ms) (data_width + k))

  file_other : (i : ℕ) → (i ≡ k → ⊥) → (i ≡ data_width + k → ⊥) → atom (file_atoms k ms) i ≡ 0
  unfolding file_atoms
  file_other i d r = omega (arith, atom_or data_atom running_atom i, if_other (some_of reading ms) k i d, if_other (some_of executing ms) (data_width + k) i r)

-- ---- the atoms of all

module _ (p : Profile) where
  -- an atom of none of the paths
  atoms_other : (k : ℕ) (qs : List (List ℕ)) (i : ℕ) → ((j : ℕ) → k ≤ j → j < k + length qs → (i ≡ j → ⊥) × (i ≡ data_width + j → ⊥)) → atom (atoms_from k qs p) i ≡ 0
  unfolding atoms_from
  atoms_other k [] i h = none_at i
  atoms_other k (q ∷ qs) i h =
      omega (
        arith,
        atom_or (file_atoms k (modes_on p q)) (atoms_from (suc k) qs p) i,
        file_other k (modes_on p q) i (h k (omega arith) (omega arith)).0 (h k (omega arith) (omega arith)).1,
        atoms_other (suc k) qs i (λ j l m. h j (omega arith) (omega arith)),
      )

  atoms_data : (k : ℕ) (qs : List (List ℕ)) (j : ℕ) → k + length qs ≤ data_width → j < length qs
      → atom (atoms_from k qs p) (k + j) ≡ cond (some_of reading (modes_on p (get_or qs j []))) 1 0
  unfolding atoms_from
  atoms_data k [] j l m = absurd (omega arith)
  atoms_data k (q ∷ qs) zero l m =
      let e : k + 0 ≡ k = omega arith in
      rw e (omega (arith, atom_or (file_atoms k (modes_on p q)) (atoms_from (suc k) qs p) k, file_data k (modes_on p q), atoms_other (suc k) qs k (λ j a b. ((λ e. omega arith), (λ e. omega arith)))))
  atoms_data k (q ∷ qs) (suc j) l m =
      let e : k + suc j ≡ suc k + j = omega arith in
      rw e
      (omega (
        arith,
        atom_or (file_atoms k (modes_on p q)) (atoms_from (suc k) qs p) (suc k + j),
        file_other k (modes_on p q) (suc k + j) (λ e. omega arith) (λ e. omega arith),
        atoms_data (suc k) qs j (omega arith) (omega arith),
      ))

  atoms_running : (k : ℕ) (qs : List (List ℕ)) (j : ℕ) → k + length qs ≤ data_width → j < length qs
      → atom (atoms_from k qs p) (data_width + (k + j)) ≡ cond (some_of executing (modes_on p (get_or qs j []))) 1 0
  unfolding atoms_from
  atoms_running k [] j l m = absurd (omega arith)
  atoms_running k (q ∷ qs) zero l m =
      let e : k + 0 ≡ k = omega arith in
      rw e
      (omega (
        arith,
        atom_or (file_atoms k (modes_on p q)) (atoms_from (suc k) qs p) (data_width + k),
        file_running k (modes_on p q),
        atoms_other (suc k) qs (data_width + k) (λ j a b. ((λ e. omega arith), (λ e. omega arith))),
      ))
  atoms_running k (q ∷ qs) (suc j) l m =
      let e : k + suc j ≡ suc k + j = omega arith in
      rw e
      (omega (
        arith,
        atom_or (file_atoms k (modes_on p q)) (atoms_from (suc k) qs p) (data_width + (suc k + j)),
        file_other k (modes_on p q) (data_width + (suc k + j)) (λ e. omega arith) (λ e. omega arith),
        atoms_running (suc k) qs j (omega arith) (omega arith),
      ))

-- ---- the run mixture

told : (b : Bool) (n : ℕ) → n ≡ cond b 1 0 → (n ≡ 1) ↔ (b ≡ true)
told true n e = ((λ h. refl), (λ h. e))
told false n e = ((λ h. absurd (omega arith)), (λ h. absurd (clash h refl)))

module _ (ns : List (List ℕ)) (few : length ns ≤ data_width) (apart : Distinct ns) (p : Profile) (own : known p.path ns ≡ true) (k : ℕ) (l : k < length ns) where
  abbrev at : ℕ
  at = position p.path ns

  pub run_data : (atom (run_mixture ns p) k ≡ 1) ↔ (some_of reading (modes_on p (get_or ns k [])) ≡ true)
  unfolding run_mixture
  run_data =
      told (some_of reading (modes_on p (get_or ns k []))) (atom (bit_or (2 ^ (data_width + at)) (atoms_from 0 ns p)) k)
      (omega (arith, atom_or (2 ^ (data_width + at)) (atoms_from 0 ns p) k, single_other (data_width + at) k (λ e. omega arith), here))
    where
      here : atom (atoms_from 0 ns p) k ≡ cond (some_of reading (modes_on p (get_or ns k []))) 1 0
      here = let e : 0 + k ≡ k = omega arith in ap (atom (atoms_from 0 ns p)) (sym e) ∙ atoms_data p 0 ns k (omega arith) l

  -- its own running atom is that of its own path
  own_running : (atom (2 ^ (data_width + at)) (data_width + k) ≡ 1) ↔ (get_or ns k [] ≡ p.path)
  own_running = (to (ℕ_discrete at k), from)
    where
      to : Dec (at ≡ k) → atom (2 ^ (data_width + at)) (data_width + k) ≡ 1 → get_or ns k [] ≡ p.path
      to (yes e) h = ap (λ (n : ℕ). get_or ns n []) (sym e) ∙ position_at same_list same_eq [] p.path ns own
      to (no d) h = absurd (omega (arith, single_other (data_width + at) (data_width + k) (λ e. d (omega arith))))

      from : get_or ns k [] ≡ p.path → atom (2 ^ (data_width + at)) (data_width + k) ≡ 1
      from h =
          let e : at ≡ k = ap (λ (q : List ℕ). position q ns) (sym h) ∙ apart.placed k l in
          rw e (single_same (data_width + k))

  pub run_running : (atom (run_mixture ns p) (data_width + k) ≡ 1) ↔ ((get_or ns k [] ≡ p.path) ⊎ (some_of executing (modes_on p (get_or ns k [])) ≡ true))
  unfolding run_mixture
  run_running = (λ h. ⊎_elim (λ a. inl (own_running.0 a)) (λ b. inr (others.0 b)) (both.0 h), ⊎_elim (λ a. both.1 (inl (own_running.1 a))) (λ b. both.1 (inr (others.1 b))))
    where
      both : (atom (bit_or (2 ^ (data_width + at)) (atoms_from 0 ns p)) (data_width + k) ≡ 1)
          ↔ ((atom (2 ^ (data_width + at)) (data_width + k) ≡ 1) ⊎ (atom (atoms_from 0 ns p) (data_width + k) ≡ 1))
      both = or_has (2 ^ (data_width + at)) (atoms_from 0 ns p) (data_width + k)

      others : (atom (atoms_from 0 ns p) (data_width + k) ≡ 1) ↔ (some_of executing (modes_on p (get_or ns k [])) ≡ true)
      others =
          let e : data_width + (0 + k) ≡ data_width + k = omega arith in
          told (some_of executing (modes_on p (get_or ns k []))) (atom (atoms_from 0 ns p) (data_width + k)) (ap (atom (atoms_from 0 ns p)) (sym e) ∙ atoms_running p 0 ns k (omega arith) l)

-- no other atom
pub run_none : (ns : List (List ℕ)) (p : Profile) → known p.path ns ≡ true → (i : ℕ)
    → ((j : ℕ) → j < length ns → (i ≡ j → ⊥) × (i ≡ data_width + j → ⊥)) → atom (run_mixture ns p) i ≡ 0
unfolding run_mixture
run_none ns p own i h =
    let at : ℕ = position p.path ns in
    omega (
      arith,
      atom_or (2 ^ (data_width + at)) (atoms_from 0 ns p) i,
      single_other (data_width + at) i (h at (position_lt same_list p.path ns own)).1,
      atoms_other p 0 ns i (λ j a b. h j (omega arith)),
    )
