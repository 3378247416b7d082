-- The atoms that consent: one for each byte of 1, and its twin.
use Prim.Native.Nat.{ℕ, zero, suc, ◌+◌, ◌-◌, ◌*◌, ◌/◌, ◌%◌, ◌^◌, ◌≤◌, ◌<◌}
use mathlib.Core.Path.{◌≡◌, sym, ap, ◌∙◌}
use mathlib.Core.Bool.{Bool, true, false}
use mathlib.Core.List.{List, [], ◌∷◌}
use native.Mathlib.Omega.{arith}
use native.Mathlib.Nat.{pow-le-pow_right}
use lib.Pow.{pow-lt, pow_pos}
use lib.Dec.{eqb, leb}
use lib.ListN.{length, get_or}
use borrow.Author.Tests.{leb-true, eqb-true}
use Rattle.lists.specs.Lists.{every}
use Rattle.lists.proofs.Bools.{and_0, and_1, refuted}
use Rattle.lists.proofs.Every.{every_0, every_1}
use Rattle.rules.specs.Sets.{atom, holds, running_of}
use Rattle.rules.specs.Answers.{data_width, tag_width}
use Rattle.rules.proofs.SetLaws.{atom_or, atom_above, running_atom_lem, running_none_below, holds_atoms, holds_all, holds_single}
use Rattle.composition.specs.Composed.{consent_good, consent_atoms, consenting}

abbrev pub zero_or_one : ℕ → Bool
zero_or_one b = leb b 1

-- ---- the number of zeros and ones

pub atoms_small : (bytes : List ℕ) → every zero_or_one bytes ≡ true → consent_atoms bytes < 2 ^ length bytes
unfolding consent_atoms
atoms_small [] h = omega arith
atoms_small (b ∷ bytes) h =
    let k : b ≤ 1 = leb-true b 1 (every_0 zero_or_one b bytes h) in
    let ih : consent_atoms bytes < 2 ^ length bytes = atoms_small bytes (every_1 zero_or_one b bytes h) in
    let e : 2 ^ suc (length bytes) ≡ 2 * 2 ^ length bytes = omega arith in
    omega (arith, e)

pub atoms_below : (bytes : List ℕ) → every zero_or_one bytes ≡ true → length bytes ≤ data_width → consent_atoms bytes < 2 ^ data_width
atoms_below bytes h l =
    let p : 2 ^ length bytes ≤ 2 ^ data_width = pow-le-pow_right (omega arith) l in
    omega (arith, atoms_small bytes h)

atom_first : (b x : ℕ) → b ≤ 1 → atom (b + 2 * x) 0 ≡ b
unfolding atom
atom_first b x h = omega arith

atom_later : (b x k : ℕ) → b ≤ 1 → atom (b + 2 * x) (suc k) ≡ atom x k
unfolding atom
atom_later b x k h = ap (λ (y : ℕ). y % 2) (half ∙ ap (λ (y : ℕ). y / 2 ^ k) two)
  where
    two : (b + 2 * x) / 2 ≡ x
    two = omega arith

    half : (b + 2 * x) / 2 ^ suc k ≡ (b + 2 * x) / 2 / 2 ^ k
    half = let e : 2 ^ suc k ≡ 2 * 2 ^ k = omega arith in ap (λ (d : ℕ). (b + 2 * x) / d) e ∙ sym (native.Mathlib.Nat.div-div-eq-div-mul (b + 2 * x) 2 (2 ^ k))

pub atom_byte : (bytes : List ℕ) → every zero_or_one bytes ≡ true → (k : ℕ) → atom (consent_atoms bytes) k ≡ get_or bytes k 0
unfolding consent_atoms
atom_byte [] h k = atom_above 0 k (pow_pos k)
atom_byte (b ∷ bytes) h zero = atom_first b (consent_atoms bytes) (leb-true b 1 (every_0 zero_or_one b bytes h))
atom_byte (b ∷ bytes) h (suc k) = atom_later b (consent_atoms bytes) k (leb-true b 1 (every_0 zero_or_one b bytes h)) ∙ atom_byte bytes (every_1 zero_or_one b bytes h) k

-- ---- the atoms that consent

module _ (bytes : List ℕ) (good : consent_good bytes ≡ true) where
  pub consent_long : length bytes ≡ data_width
  unfolding consent_good
  consent_long = eqb-true (length bytes) data_width (and_0 (eqb (length bytes) data_width) (every zero_or_one bytes) good)

  pub consent_each : every zero_or_one bytes ≡ true
  unfolding consent_good
  consent_each = and_1 (eqb (length bytes) data_width) good

  -- a data atom consents if its byte is 1
  pub consents_data : (k : ℕ) → k < data_width → atom (consenting bytes) k ≡ get_or bytes k 0
  unfolding consenting
  consents_data k l =
      let e : atom (consent_atoms bytes) k ≡ get_or bytes k 0 = atom_byte bytes consent_each k in
      let f : atom (running_of data_width (consent_atoms bytes)) k ≡ 0 = running_none_below data_width (consent_atoms bytes) k l in
      omega (arith, atom_or (consent_atoms bytes) (running_of data_width (consent_atoms bytes)) k)

  -- and its twin with it
  pub consents_twin : (k : ℕ) → k < data_width → atom (consenting bytes) (data_width + k) ≡ get_or bytes k 0
  unfolding consenting
  consents_twin k l =
      let w : data_width ≤ data_width + k = omega arith in
      let p : 2 ^ data_width ≤ 2 ^ (data_width + k) = pow-le-pow_right (omega arith) w in
      let e : atom (consent_atoms bytes) (data_width + k) ≡ 0 = atom_above (consent_atoms bytes) (data_width + k) (omega (arith, atoms_below bytes consent_each (omega (arith, consent_long)))) in
      let f : atom (running_of data_width (consent_atoms bytes)) (data_width + k) ≡ get_or bytes k 0 = running_atom_lem data_width (consent_atoms bytes) k l ∙ atom_byte bytes consent_each k in
      omega (arith, atom_or (consent_atoms bytes) (running_of data_width (consent_atoms bytes)) (data_width + k))

  -- an owner that does not consent keeps the mixture of all atoms from consenting
  pub consents_partly : (k : ℕ) → k < data_width → get_or bytes k 0 ≡ 0 → holds (consenting bytes) (2 ^ tag_width - 1) ≡ false
  consents_partly k l z =
      refuted (holds (consenting bytes) (2 ^ tag_width - 1))
      (λ h. omega (arith, holds_atoms (consenting bytes) (2 ^ tag_width - 1) h k, all_has, consents_data k l))
    where
      all_has : atom (2 ^ tag_width - 1) k ≡ 1
      all_has =
          let w : k < tag_width = omega arith in
          eqb-true (atom (2 ^ tag_width - 1) k) 1
          (sym (holds_single (2 ^ tag_width - 1) k) ∙ holds_all tag_width (2 ^ k) (pow-lt w))
