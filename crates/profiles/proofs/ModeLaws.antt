-- Modes that are scanned from a place of the text: one by its first byte and the one behind it, then one after the other.
use Prim.Native.Nat.{ℕ, ◌+◌, ◌≤◌, ◌<◌}
use mathlib.Core.Path.{◌≡◌, refl, sym, ap, ◌∙◌, subst}
use mathlib.Core.Bool.{Bool, true, false, cond, ◌&&◌}
use mathlib.Core.List.{List, [], ◌∷◌}
use mathlib.Core.Option.{Option, none, some}
use Rattle.std.proofs.Common.{Some, None}
use native.Mathlib.Omega.{arith}
use lib.Bits.{bit_or}
use lib.Dec.{eqb}
use lib.ListN.{length, get_or, drop, length-append, length-drop, drop_of_length-le}
use lib.Seq.{get_or-drop, drop-drop}
use borrow.Author.Tests.{eqb-true, eq-eqb, ne_eqb}
use Rattle.fields.specs.Ascii.{ascii}
use Rattle.lists.specs.Lists.{joined}
use Rattle.lists.proofs.Bools.{and_in, and_0, same_test}
use Rattle.profiles.specs.Profiles.{Mode, mode_text, modes_text}
use Rattle.profiles.specs.Tokens.{starts, tokens}
use Rattle.profiles.specs.Reading.{mode_among, all_modes, mode_in, modes_in}
use Rattle.profiles.specs.Scanning.{mode_bit, with_modes, mode_bits, mode_scan, with_x, mode_at, modes_scan, modes_at}
use Rattle.profiles.specs.declared.ScannedMode.{ScannedMode}
use Rattle.profiles.proofs.TokenLaws.{starts_split, tokens_stop, tokens_step}
use Rattle.profiles.proofs.ProfileLines.{mode_long, mode_front}
use Rattle.profiles.proofs.WordScans.{drop_next}

-- ---- a mode by its first byte

byte_behind : (u : List ℕ) → starts (120 ∷ []) u ≡ eqb (get_or u 0 0) 120
unfolding starts
byte_behind [] = refl
byte_behind (c ∷ u) = same_test (eqb 120 c && true) (eqb c 120) (λ h. eq-eqb c 120 (sym (eqb-true 120 c (and_0 (eqb 120 c) true h)))) (λ h. and_in (eq-eqb 120 c (sym (eqb-true c 120 h))) refl)

two_scanned : (m : Mode) → length (mode_text m) ≡ 2 → (q : Bool) → cond q (Some (record { bit = mode_bit m; width = 2 })) None ≡ mode_scan (cond q (some m) none)
unfolding mode_scan
two_scanned m n true = λ i. Some (record { bit = mode_bit m; width = sym n i })
two_scanned m n false = refl

-- a byte that begins no mode
pub no_mode : (b : ℕ) → (b ≡ 114 → ⊥) → (b ≡ 119 → ⊥) → (b ≡ 97 → ⊥) → (b ≡ 108 → ⊥) → (b ≡ 109 → ⊥) → (b ≡ 105 → ⊥) → (b ≡ 112 → ⊥) → (b ≡ 80 → ⊥)
    → (b ≡ 117 → ⊥) → (b ≡ 85 → ⊥) → (u : List ℕ) → mode_in (b ∷ u) ≡ none
unfolding mode_in mode_among all_modes mode_text ascii starts
no_mode b n0 n1 n2 n3 n4 n5 n6 n7 n8 n9 u =
    rw (
      ne_eqb 114 b (λ e. n0 (sym e)),
      ne_eqb 119 b (λ e. n1 (sym e)),
      ne_eqb 97 b (λ e. n2 (sym e)),
      ne_eqb 108 b (λ e. n3 (sym e)),
      ne_eqb 109 b (λ e. n4 (sym e)),
      ne_eqb 105 b (λ e. n5 (sym e)),
      ne_eqb 112 b (λ e. n6 (sym e)),
      ne_eqb 80 b (λ e. n7 (sym e)),
      ne_eqb 117 b (λ e. n8 (sym e)),
      ne_eqb 85 b (λ e. n9 (sym e)),
    )

module _ (t : List ℕ) (at : ℕ) (l : at < length t) (b : ℕ) (f : get_or t at 0 ≡ b) where
  first_byte : drop at t ≡ b ∷ drop (at + 1) t
  first_byte = drop_next t at l ∙ ap (λ (x : ℕ). x ∷ drop (at + 1) t) f

  pub one_letter : (m : Mode) → ((u : List ℕ) → mode_in (b ∷ u) ≡ some m) → mode_scan (some m) ≡ mode_at t at
  unfolding mode_at
  one_letter m e = ap mode_scan (sym (ap mode_in first_byte ∙ e (drop (at + 1) t)))

  pub two_letters : (m : Mode) → length (mode_text m) ≡ 2 → ((u : List ℕ) → mode_in (b ∷ u) ≡ cond (starts (120 ∷ []) u) (some m) none)
      → with_x (get_or t (at + 1) 0) (mode_bit m) ≡ mode_at t at
  unfolding with_x mode_at
  two_letters m n e =
      let z : at + 1 + 0 ≡ at + 1 = omega arith in
      let s : starts (120 ∷ []) (drop (at + 1) t) ≡ eqb (get_or t (at + 1) 0) 120
      = byte_behind (drop (at + 1) t) ∙ ap (λ (x : ℕ). eqb x 120) (get_or-drop (at + 1) t 0 0 ∙ ap (λ (k : ℕ). get_or t k 0) z) in
      two_scanned m n (eqb (get_or t (at + 1) 0) 120)
      ∙ ap mode_scan (sym (ap mode_in first_byte ∙ e (drop (at + 1) t) ∙ ap (λ (q : Bool). cond q (some m) none) s))

  pub no_letter : ((u : List ℕ) → mode_in (b ∷ u) ≡ none) → mode_scan none ≡ mode_at t at
  unfolding mode_at
  no_letter e = ap mode_scan (sym (ap mode_in first_byte ∙ e (drop (at + 1) t)))

-- ---- one after the other

modes_more : (t : List ℕ) (i : ℕ) (m : Mode) → mode_in (drop i t) ≡ some m → i < length t → modes_in (drop i t) ≡ m ∷ modes_in (drop (i + length (mode_text m)) t)
unfolding modes_in
modes_more t i m e l =
    tokens_step mode_in mode_text (drop i t) m e (omega (arith, length-drop i t)) (mode_long m) ∙ ap (λ (u : List ℕ). m ∷ tokens mode_in mode_text u) (drop-drop (length (mode_text m)) i t)

mode_room : (t : List ℕ) (i : ℕ) (m : Mode) → mode_in (drop i t) ≡ some m → i ≤ length t → i + length (mode_text m) ≤ length t
mode_room t i m e l =
    omega (arith, ap length (starts_split (mode_text m) (drop i t) (mode_front (drop i t) m e)), length-append (mode_text m) (drop (length (mode_text m)) (drop i t)), length-drop i t)

pub record ModesScanned (t : List ℕ) (at i bits : ℕ) : Type 0 where
  pub place : i ≤ length t
  pub rest : with_modes bits (modes_in (drop i t)) ≡ mode_bits (modes_in (drop at t))
  pub ends : i + length (modes_text (modes_in (drop i t))) ≡ at + length (modes_text (modes_in (drop at t)))

pub modes_start : (t : List ℕ) (at : ℕ) → at ≤ length t → ModesScanned t at at 0
unfolding mode_bits
modes_start t at l = record { place = l; rest = refl; ends = refl }

module _ (t : List ℕ) (at i bits : ℕ) (g : ModesScanned t at i bits) where
  stopped : modes_in (drop i t) ≡ [] → record { bits = bits; next = i } ≡ modes_at t at
  unfolding modes_at modes_scan with_modes modes_text joined
  stopped e =
      let a : bits ≡ mode_bits (modes_in (drop at t)) = rw e at g.rest in
      let b : i ≡ at + length (modes_text (modes_in (drop at t))) = omega (arith, ap (λ ms. length (modes_text ms)) e, g.ends) in
      λ k. record { bits = a k; next = b k }

  pub modes_end_lem : length t ≤ i → record { bits = bits; next = i } ≡ modes_at t at
  unfolding modes_in mode_in mode_among all_modes mode_text ascii starts
  modes_end_lem l = stopped (ap modes_in (drop_of_length-le t l) ∙ tokens_stop mode_in mode_text [] refl)

  pub modes_stop : None ≡ mode_at t i → record { bits = bits; next = i } ≡ modes_at t at
  unfolding modes_in mode_at mode_scan
  modes_stop e = by (mode_in (drop i t)) refl
    where
      by : (o : Option Mode) → mode_in (drop i t) ≡ o → record { bits = bits; next = i } ≡ modes_at t at
      by none q = stopped (tokens_stop mode_in mode_text (drop i t) q)
      by (some n) q = let z : None ≡ mode_scan (some n) = e ∙ ap mode_scan q in absurd (cc)

  module _ (m : ScannedMode) (e : Some m ≡ mode_at t i) (l : i < length t) where
    scanned_is : (n : Mode) → mode_in (drop i t) ≡ some n → m ≡ record { bit = mode_bit n; width = length (mode_text n) }
    unfolding mode_at mode_scan
    scanned_is n q = let z : Some m ≡ mode_scan (some n) = e ∙ ap mode_scan q in cc

    not_none : mode_in (drop i t) ≡ none → ⊥
    unfolding mode_at mode_scan
    not_none q = let z : Some m ≡ mode_scan none = e ∙ ap mode_scan q in cc

    pub mode_fits : i + m.width ≤ length t
    mode_fits = by (mode_in (drop i t)) refl
      where
        by : (o : Option Mode) → mode_in (drop i t) ≡ o → i + m.width ≤ length t
        by none q = absurd (not_none q)
        by (some n) q = omega (arith, ap (λ (x : ScannedMode). x.width) (scanned_is n q), mode_room t i n q (omega arith))

    pub mode_wide : 0 < m.width
    mode_wide = by (mode_in (drop i t)) refl
      where
        by : (o : Option Mode) → mode_in (drop i t) ≡ o → 0 < m.width
        by none q = absurd (not_none q)
        by (some n) q = omega (arith, ap (λ (x : ScannedMode). x.width) (scanned_is n q), mode_long n)

    passed : (n : Mode) → mode_in (drop i t) ≡ some n → ModesScanned t at (i + length (mode_text n)) (bit_or bits (mode_bit n))
    unfolding with_modes modes_text joined
    passed n q =
        let ms = modes_in (drop (i + length (mode_text n)) t) in
        record {
          place = mode_room t i n q (omega arith);
          rest = sym (ap (with_modes bits) (modes_more t i n q l)) ∙ g.rest;
          ends = omega (arith, ap (λ (xs : List Mode). length (modes_text xs)) (modes_more t i n q l), length-append (mode_text n) (modes_text ms), g.ends);
        }

    pub modes_next : ModesScanned t at (i + m.width) (bit_or bits m.bit)
    modes_next = by (mode_in (drop i t)) refl
      where
        by : (o : Option Mode) → mode_in (drop i t) ≡ o → ModesScanned t at (i + m.width) (bit_or bits m.bit)
        by none q = absurd (not_none q)
        by (some n) q = subst (λ (x : ScannedMode). ModesScanned t at (i + x.width) (bit_or bits x.bit)) (sym (scanned_is n q)) (passed n q)
