-- The loops over the bytes of a consent.
use Prim.Native.Nat.{ℕ, suc, ◌+◌, ◌-◌, ◌*◌, ◌^◌, ◌<◌}
use mathlib.Core.Path.{◌≡◌, refl, sym, ap, ap₂, ◌∙◌}
use mathlib.Core.Bool.{Bool, true, false, ◌&&◌}
use mathlib.Core.List.{List, [], ◌∷◌, reverse}
use native.Mathlib.Omega.{arith}
use lib.Bits.{bit_or}
use lib.ListN.{length, get_or, drop, length-drop, drop_of_length-le}
use lib.Seq.{drop-cons}
use borrow.Author.Tests.{eq-eqb, ne_eqb}
use Rattle.std.specs.List.{list_all}
use Rattle.std.proofs.lemmas.List.{length-reverse, get_or-reverse}
use Rattle.lists.specs.Lists.{every}
use Rattle.lists.proofs.Every.{every_drop}
use Rattle.rules.specs.Sets.{running_of}
use Rattle.rules.specs.Answers.{data_width}
use Rattle.composition.specs.Composed.{consent_good, consent_atoms, consenting}
use Rattle.composition.proofs.ConsentLaws.{zero_or_one, atoms_below, consent_long, consent_each}

-- ---- each byte is 0 or 1

pub all_every : {A : Type 0} (f : A → Bool) (xs : List A) → list_all f xs ≡ every f xs
unfolding every
all_every f [] = refl
all_every f (x ∷ xs) = ap (λ (b : Bool). f x && b) (all_every f xs)

pub judged : (bytes : List ℕ) → length bytes ≡ data_width → {r : Bool} → r ≡ list_all zero_or_one bytes → r ≡ consent_good bytes
unfolding consent_good
judged bytes e h = h ∙ all_every zero_or_one bytes ∙ sym (rw (eq-eqb (length bytes) data_width e))

pub other_length : (bytes : List ℕ) → (length bytes ≡ data_width → ⊥) → false ≡ consent_good bytes
unfolding consent_good
other_length bytes d = sym (rw (ne_eqb (length bytes) data_width d))

-- ---- the atoms, from the last byte on

-- the atoms of the last n bytes
pub record Summing (bytes : List ℕ) (atoms n : ℕ) : Type 0 where
  pub small : atoms < 2 ^ data_width
  pub is : atoms ≡ consent_atoms (drop (length bytes - n) bytes)

pub summing_start : (bytes : List ℕ) → Summing bytes 0 0
unfolding consent_atoms
summing_start bytes = record { small = omega arith; is = sym (ap consent_atoms (drop_of_length-le bytes {i = length bytes - 0} (omega arith))) }

-- what the loop over the reversed bytes has read
abbrev pub NextByte : List ℕ → ℕ → ℕ → Type 0
NextByte bytes n b = (n < length (reverse bytes)) × (b ≡ get_or (reverse bytes) n b)

module _ (bytes : List ℕ) (good : consent_good bytes ≡ true) where
  pub summing_next : (atoms n b : ℕ) → Summing bytes atoms n → NextByte bytes n b → Summing bytes (b + 2 * atoms) (n + 1)
  unfolding consent_atoms
  summing_next atoms n b h t =
      let l : n < length bytes = omega (arith, t.0, length-reverse bytes) in
      let k : ℕ = length bytes - (n + 1) in
      let i : length bytes - 1 - n ≡ k = omega arith in
      let j : suc k ≡ length bytes - n = omega arith in
      let m : k < length bytes = omega arith in
      let x : get_or bytes k b ≡ b = ap (λ (p : ℕ). get_or bytes p b) (sym i) ∙ sym (get_or-reverse bytes n b l) ∙ sym t.1 in
      let d : drop k bytes ≡ b ∷ drop (length bytes - n) bytes = drop-cons bytes k b m ∙ ap₂ (λ (p q : ℕ). p ∷ drop q bytes) x j in
      let e : b + 2 * atoms ≡ consent_atoms (drop k bytes) = ap (λ (p : ℕ). b + 2 * p) h.is ∙ sym (ap consent_atoms d) in
      record {
        small =
            omega (
              arith,
              e,
              atoms_below (drop k bytes) (every_drop zero_or_one k bytes (consent_each bytes good)) (omega (arith, length-drop k bytes, consent_long bytes good)),
            );
        is = e;
      }

pub summing_end : (bytes : List ℕ) (atoms n : ℕ) → Summing bytes atoms n → n ≡ length (reverse bytes) → {twins : ℕ} → twins ≡ running_of data_width atoms → bit_or atoms twins ≡ consenting bytes
unfolding consenting
summing_end bytes atoms n h l e =
    let z : length bytes - n ≡ 0 = omega (arith, l, length-reverse bytes) in
    let f : atoms ≡ consent_atoms bytes = h.is ∙ ap (λ (k : ℕ). consent_atoms (drop k bytes)) z in
    ap (bit_or atoms) e ∙ ap (λ (x : ℕ). bit_or x (running_of data_width x)) f
