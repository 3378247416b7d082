-- Modes as bits: one of the wanted modes is among others exactly if their bits meet.
use Prim.Native.Nat.{ℕ}
use native.Mathlib.Omega.{arith}
use mathlib.Core.Path.{◌≡◌, refl, sym, ap, ap₂, ◌∙◌}
use mathlib.Core.Bool.{Bool, true, false, not, ◌||◌}
use mathlib.Core.List.{List, [], ◌∷◌, ◌++◌}
use lib.Bits.{bit_and, bit_or, or_add_and, and_le_l, and_le_r, and_zero_l, or_zero_l, or_zero_r}
use lib.Dec.{eqb}
use borrow.Author.Tests.{eqb-true, eq-eqb, ne_eqb}
use Rattle.lists.specs.Lists.{same_list}
use Rattle.lists.proofs.Bools.{clash}
use Rattle.fields.specs.Ascii.{ascii}
use Rattle.rules.proofs.SetLaws.{atom_and, atom_or, ext}
use Rattle.profiles.specs.Profiles.{Mode, mode_r, mode_w, mode_a, mode_l, mode_m, mode_ix, mode_px, mode_Px, mode_ux, mode_Ux, mode_text, modes_good}
use Rattle.profiles.specs.Scanning.{mode_bit, with_modes, mode_bits}
use Rattle.confinement.specs.Confinement.{is_one_of, some_of, reading, executing, writing, unconfined, inheriting, confined}
use Rattle.confinement.specs.Tables.{reading_bits, executing_bits, writing_bits, unconfined_bits, inheriting_bits, confined_bits, meets}

-- ---- unions

pub or_assoc : (a b c : ℕ) → bit_or (bit_or a b) c ≡ bit_or a (bit_or b c)
or_assoc a b c =
    ext (bit_or (bit_or a b) c) (bit_or a (bit_or b c))
    (λ k. omega (arith, atom_or (bit_or a b) c k, atom_or a b k, atom_or a (bit_or b c) k, atom_or b c k))

and_or : (a b w : ℕ) → bit_and (bit_or a b) w ≡ bit_or (bit_and a w) (bit_and b w)
and_or a b w =
    ext (bit_and (bit_or a b) w) (bit_or (bit_and a w) (bit_and b w))
    (λ k. omega (arith, atom_and (bit_or a b) w k, atom_or a b k, atom_or (bit_and a w) (bit_and b w) k, atom_and a w k, atom_and b w k))

or_zero : (x y : ℕ) → bit_or x y ≡ 0 → (x ≡ 0) × (y ≡ 0)
or_zero x y e = (omega (arith, or_add_and x y, and_le_l x y, and_le_r x y), omega (arith, or_add_and x y, and_le_l x y, and_le_r x y))

-- ---- the bits of modes

pub with_or : (n : ℕ) (ms : List Mode) → with_modes n ms ≡ bit_or n (mode_bits ms)
unfolding with_modes mode_bits
with_or n [] = sym (or_zero_r n)
with_or n (m ∷ ms) =
    with_or (bit_or n (mode_bit m)) ms
    ∙ or_assoc n (mode_bit m) (mode_bits ms)
    ∙ ap (bit_or n) (sym (with_or (bit_or 0 (mode_bit m)) ms ∙ ap (λ (x : ℕ). bit_or x (mode_bits ms)) (or_zero_l (mode_bit m))))

pub bits_first : (m : Mode) (ms : List Mode) → mode_bits (m ∷ ms) ≡ bit_or (mode_bit m) (mode_bits ms)
unfolding with_modes
bits_first m ms =
    unfold mode_bits in (with_or (bit_or 0 (mode_bit m)) ms ∙ ap (λ (x : ℕ). bit_or x (mode_bits ms)) (or_zero_l (mode_bit m)))

pub bits_append : (ms ns : List Mode) → mode_bits (ms ++ ns) ≡ bit_or (mode_bits ms) (mode_bits ns)
bits_append [] ns = sym (unfold mode_bits with_modes in or_zero_l (mode_bits ns))
bits_append (m ∷ ms) ns =
    bits_first m (ms ++ ns)
    ∙ ap (bit_or (mode_bit m)) (bits_append ms ns)
    ∙ sym (or_assoc (mode_bit m) (mode_bits ms) (mode_bits ns))
    ∙ ap (λ (x : ℕ). bit_or x (mode_bits ns)) (sym (bits_first m ms))

bit_some : (m : Mode) → mode_bit m ≡ 0 → ⊥
unfolding mode_bit
bit_some mode_r e = omega arith
bit_some mode_w e = omega arith
bit_some mode_a e = omega arith
bit_some mode_l e = omega arith
bit_some mode_m e = omega arith
bit_some mode_ix e = omega arith
bit_some mode_px e = omega arith
bit_some mode_Px e = omega arith
bit_some mode_ux e = omega arith
bit_some mode_Ux e = omega arith

-- at least one mode has a bit
pub no_bit : (ms : List Mode) → modes_good ms ≡ true → mode_bits ms ≡ 0 → ⊥
unfolding modes_good
no_bit [] h e = clash h refl
no_bit (m ∷ ms) h e = bit_some m (or_zero (mode_bit m) (mode_bits ms) (sym (bits_first m ms) ∙ e)).0

-- ---- one of the wanted modes

not_zero : (x : ℕ) → eqb x 0 ≡ false → x ≡ 0 → ⊥
not_zero x p e = clash (eq-eqb x 0 e) p

nonzero_or : (x y : ℕ) (a b : Bool) → eqb x 0 ≡ a → eqb y 0 ≡ b → not (eqb (bit_or x y) 0) ≡ (not a || not b)
nonzero_or x y true b p q = ap (λ (z : ℕ). not (eqb z 0)) (ap (λ (z : ℕ). bit_or z y) (eqb-true x 0 p) ∙ or_zero_l y) ∙ ap not q
nonzero_or x y false b p q = ap not (ne_eqb (bit_or x y) 0 (λ e. not_zero x p (or_zero x y e).0))

meets_or : (a b w : ℕ) → meets (bit_or a b) w ≡ (meets a w || meets b w)
unfolding meets
meets_or a b w =
    ap (λ (x : ℕ). not (eqb x 0)) (and_or a b w) ∙ nonzero_or (bit_and a w) (bit_and b w) (eqb (bit_and a w) 0) (eqb (bit_and b w) 0) refl refl

-- the wanted modes have these bits: so it is with each mode
abbrev pub Spelt : List Mode → ℕ → Type 0
Spelt wanted w = (m : Mode) → is_one_of wanted m ≡ meets (mode_bit m) w

pub some_bits : (wanted : List Mode) (w : ℕ) → Spelt wanted w → (ms : List Mode) → some_of wanted ms ≡ meets (mode_bits ms) w
unfolding some_of
some_bits wanted w told [] = unfold meets mode_bits with_modes in (ap (λ (x : ℕ). not (eqb x 0)) (sym (and_zero_l w)))
some_bits wanted w told (m ∷ ms) =
    ap₂ ◌||◌ (told m) (some_bits wanted w told ms) ∙ sym (ap (λ (b : ℕ). meets b w) (bits_first m ms) ∙ meets_or (mode_bit m) (mode_bits ms) w)

-- a fact of each of the ten modes
each : (P : Mode → Type 0) → P mode_r → P mode_w → P mode_a → P mode_l → P mode_m → P mode_ix → P mode_px → P mode_Px → P mode_ux → P mode_Ux → (m : Mode) → P m
each P r w a l m ix px Px ux Ux mode_r = r
each P r w a l m ix px Px ux Ux mode_w = w
each P r w a l m ix px Px ux Ux mode_a = a
each P r w a l m ix px Px ux Ux mode_l = l
each P r w a l m ix px Px ux Ux mode_m = m
each P r w a l m ix px Px ux Ux mode_ix = ix
each P r w a l m ix px Px ux Ux mode_px = px
each P r w a l m ix px Px ux Ux mode_Px = Px
each P r w a l m ix px Px ux Ux mode_ux = ux
each P r w a l m ix px Px ux Ux mode_Ux = Ux

pub reading_spelt : Spelt reading reading_bits
unfolding ascii same_list mode_text is_one_of meets mode_bit reading
reading_spelt = each (λ m. is_one_of reading m ≡ meets (mode_bit m) reading_bits) refl refl refl refl refl refl refl refl refl refl

pub executing_spelt : Spelt executing executing_bits
unfolding ascii same_list mode_text is_one_of meets mode_bit executing
executing_spelt = each (λ m. is_one_of executing m ≡ meets (mode_bit m) executing_bits) refl refl refl refl refl refl refl refl refl refl

pub writing_spelt : Spelt writing writing_bits
unfolding ascii same_list mode_text is_one_of meets mode_bit writing
writing_spelt = each (λ m. is_one_of writing m ≡ meets (mode_bit m) writing_bits) refl refl refl refl refl refl refl refl refl refl

pub unconfined_spelt : Spelt unconfined unconfined_bits
unfolding ascii same_list mode_text is_one_of meets mode_bit unconfined
unconfined_spelt = each (λ m. is_one_of unconfined m ≡ meets (mode_bit m) unconfined_bits) refl refl refl refl refl refl refl refl refl refl

pub inheriting_spelt : Spelt inheriting inheriting_bits
unfolding ascii same_list mode_text is_one_of meets mode_bit inheriting
inheriting_spelt = each (λ m. is_one_of inheriting m ≡ meets (mode_bit m) inheriting_bits) refl refl refl refl refl refl refl refl refl refl

pub confined_spelt : Spelt confined confined_bits
unfolding ascii same_list mode_text is_one_of meets mode_bit confined
confined_spelt = each (λ m. is_one_of confined m ≡ meets (mode_bit m) confined_bits) refl refl refl refl refl refl refl refl refl refl
