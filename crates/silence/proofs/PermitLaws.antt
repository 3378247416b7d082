-- A tag against the permit rule of an object, writer by writer (`permits`).
use Prim.Native.Nat.{ℕ, ◌+◌, ◌/◌, ◌%◌, ◌^◌, ◌≤◌, ◌<◌}
use mathlib.Core.Path.{◌≡◌, refl, sym, subst, ap, ◌∙◌}
use mathlib.Core.Bool.{Bool, true, false, cond, ◌||◌}
use mathlib.Core.List.{List, [], ◌∷◌}
use native.Mathlib.Numerals.{add-one}
use native.Mathlib.Omega.{arith}
use lib.Bits.{bit_and, bit_or}
use lib.Dec.{eqb}
use lib.ListN.{length, get_or, drop, drop_of_length-le}
use lib.Seq.{drop-cons}
use borrow.Author.Tests.{eq-eqb}
use Rattle.lists.specs.Lists.{elem}
use Rattle.lists.proofs.Bools.{or_0, or_1, or_none}
use Rattle.rules.specs.Sets.{holds}
use Rattle.rules.specs.Rules.{covers}
use Rattle.rules.proofs.SetLaws.{atom_or, atoms_holds, holds_trans, holds_is, holds_not}
use Rattle.matrix.specs.Flows.{has}
use Rattle.matrix.proofs.RowBits.{has_is, has_not}
use Rattle.derivation.specs.Derived.{writer_mixtures, or_alone, permit_of}
use Rattle.silence.proofs.OneWriter.{writer_mixed}

-- a mixture with an object holds the object alone
or_holds : (r b : ℕ) → holds (bit_or r (2 ^ b)) (2 ^ b) ≡ true
or_holds r b = atoms_holds (bit_or r (2 ^ b)) (2 ^ b) (λ k. omega (arith, atom_or r (2 ^ b) k))

module _ (reads writes : List ℕ) (b tag : ℕ) where
  -- what holds in the object alone, the first mixture holds
  alone_first : (m : ℕ) (r : List ℕ) → writer_mixtures reads writes b ≡ m ∷ r → holds (2 ^ b) tag ≡ true → covers (m ∷ r) tag ≡ true
  unfolding covers
  alone_first m r e h =
      let z : (s : ℕ) × (s < length reads) × (has (get_or writes s 0) b ≡ true) × (m ≡ bit_or (get_or reads s 0) (2 ^ b)) =
      writer_mixed reads writes b m (rw e (unfold elem in or_0 (eqb m m) (elem m r) (eq-eqb m m refl))) in
      or_0 (holds m tag) (covers r tag) (holds_trans m (2 ^ b) tag (subst (λ (x : ℕ). holds x (2 ^ b) ≡ true) (sym z.3) (or_holds (get_or reads z.0 0) b)) h)

  -- the rule covers what a writer's mixture holds, or the object alone
  pub permit_covers : covers (permit_of reads writes b) tag ≡ (covers (writer_mixtures reads writes b) tag || holds (2 ^ b) tag)
  unfolding permit_of
  permit_covers = by (writer_mixtures reads writes b) refl
    where
      by : (ms : List ℕ) → writer_mixtures reads writes b ≡ ms → covers (or_alone b ms) tag ≡ (covers ms tag || holds (2 ^ b) tag)
      by [] e = unfold or_alone covers in or_none (holds (2 ^ b) tag)
      by (m ∷ r) e = unfold or_alone in (or_same (covers (m ∷ r) tag) (holds (2 ^ b) tag) (alone_first m r e))
        where
          or_same : (x y : Bool) → (y ≡ true → x ≡ true) → x ≡ (x || y)
          or_same true y f = refl
          or_same false true f = f refl
          or_same false false f = refl

-- what the object alone holds is covered
pub permit_own : (reads writes : List ℕ) (b tag own : ℕ) → own ≡ 2 ^ b → bit_and own tag ≡ tag → true ≡ covers (permit_of reads writes b) tag
permit_own reads writes b tag own o h =
    sym (permit_covers reads writes b tag ∙ or_1 (covers (writer_mixtures reads writes b) tag) (holds (2 ^ b) tag) (holds_is (2 ^ b) tag (rw o at h)))

-- ---- the loop: what is left of the writers, or the object alone, decides

pub record Permitting (reads writes : List ℕ) (b tag s : ℕ) : Type 0 where
  pub place : s ≤ length reads
  pub even : length writes ≡ length reads
  pub rest : covers (permit_of reads writes b) tag ≡ (covers (writer_mixtures (drop s reads) (drop s writes) b) tag || holds (2 ^ b) tag)

pub permitting_start : (reads writes : List ℕ) (b tag : ℕ) → length writes ≡ length reads → Permitting reads writes b tag 0
permitting_start reads writes b tag e = record { place = omega arith; even = e; rest = permit_covers reads writes b tag }

module _ {reads writes : List ℕ} {b tag s : ℕ} (g : Permitting reads writes b tag s) where
  abbrev Behind : List ℕ
  Behind = writer_mixtures (drop (s + 1) reads) (drop (s + 1) writes) b

  writers_next : s < length reads → writer_mixtures (drop s reads) (drop s writes) b ≡ cond (has (get_or writes s 0) b) (bit_or (get_or reads s 0) (2 ^ b) ∷ Behind) Behind
  unfolding writer_mixtures
  writers_next l =
      let p : s < length writes = omega (arith, g.even) in
      rw (drop-cons reads s 0 l, drop-cons writes s 0 p, add-one)

  -- subject s, by whether it writes b
  turn : (x : Bool) → s < length reads → has (get_or writes s 0) b ≡ x
      → covers (permit_of reads writes b) tag ≡ (covers (cond x (bit_or (get_or reads s 0) (2 ^ b) ∷ Behind) Behind) tag || holds (2 ^ b) tag)
  turn x l h =
      g.rest
      ∙ ap (λ (ms : List ℕ). covers ms tag || holds (2 ^ b) tag)
      (writers_next l ∙ ap (λ (y : Bool). cond y (bit_or (get_or reads s 0) (2 ^ b) ∷ Behind) Behind) h)

  pub permitting_skip : s < length reads → (get_or writes s 0 / 2 ^ b % 2 ≡ 1 → ⊥) → Permitting reads writes b tag (s + 1)
  permitting_skip l t = record { place = omega arith; even = g.even; rest = turn false l (has_not (get_or writes s 0) b t) }

  pub permitting_miss : s < length reads → get_or writes s 0 / 2 ^ b % 2 ≡ 1 → (own : ℕ) → own ≡ 2 ^ b → (bit_and (bit_or (get_or reads s 0) own) tag ≡ tag → ⊥) → Permitting reads writes b tag (s + 1)
  unfolding covers
  permitting_miss l t own o h = record {
    place = omega arith;
    even = g.even;
    rest = turn true l (has_is (get_or writes s 0) b t) ∙ ap (λ (x : Bool). (x || covers Behind tag) || holds (2 ^ b) tag) (holds_not (bit_or (get_or reads s 0) (2 ^ b)) tag (rw o at h));
  }

  pub permitting_found : s < length reads → get_or writes s 0 / 2 ^ b % 2 ≡ 1 → (own : ℕ) → own ≡ 2 ^ b
      → bit_and (bit_or (get_or reads s 0) own) tag ≡ tag → true ≡ covers (permit_of reads writes b) tag
  unfolding covers
  permitting_found l t own o h =
      sym (turn true l (has_is (get_or writes s 0) b t) ∙ ap (λ (x : Bool). (x || covers Behind tag) || holds (2 ^ b) tag) (holds_is (bit_or (get_or reads s 0) (2 ^ b)) tag (rw o at h)))

  pub permitting_end : length reads ≤ s → (own : ℕ) → own ≡ 2 ^ b → (bit_and own tag ≡ tag → ⊥) → false ≡ covers (permit_of reads writes b) tag
  permitting_end l own o h =
      sym
      (g.rest ∙ ap (λ (rs : List ℕ). covers (writer_mixtures rs (drop s writes) b) tag || holds (2 ^ b) tag) (drop_of_length-le reads {i = s} l) ∙ none
      ∙ holds_not (2 ^ b) tag (rw o at h))
    where
      none : (covers (writer_mixtures [] (drop s writes) b) tag || holds (2 ^ b) tag) ≡ holds (2 ^ b) tag
      none = unfold writer_mixtures covers in refl
