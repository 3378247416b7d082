-- Eight hexadecimal digits, written at once as the bytes of one number. Only the proof of `eight_digits` cites this file.
use Prim.Native.Nat.{ℕ, zero, suc, ◌+◌, ◌*◌, ◌-◌, ◌/◌, ◌%◌, ◌^◌, ◌≤◌, ◌<◌}
use native.Mathlib.Nat.{mod-lt, lt_of_lt_of_le, le-add_left}
use native.Mathlib.Omega.{arith}
use mathlib.Core.Path.{◌≡◌, refl, sym, ap, ap₂, ◌∙◌}
use mathlib.Core.List.{List, [], ◌∷◌, map}
use lib.ListN.{length}
use lib.Pow.{pow_pos, pow_mono, split, mod-mod-pow, ones_lt}
use lib.Bits.{bit_and, and_block, and_mask, and_le_r}
use Rattle.fields.specs.Bytes.{number_in, bytes_of}
use Rattle.listing.specs.Text.{digit, digits}
use Rattle.listing.proofs.NumberTexts.{zero_code, letter_gap, digit_glyph, Below, bytes_below}

-- ---- masks

-- a mask's lowest field keeps the k low bits, and the rest of the mask meets the rest of the number
mask_field : (k j y e : ℕ) → bit_and y (e * 2 ^ (j + k) + (2 ^ k - 1)) ≡ bit_and (y / 2 ^ (j + k)) e * 2 ^ (j + k) + y % 2 ^ k
mask_field k j y e =
    ap (λ (n : ℕ). bit_and n (e * 2 ^ (j + k) + (2 ^ k - 1))) (sym (split y (j + k)))
    ∙ and_block (j + k) (y / 2 ^ (j + k)) e (y % 2 ^ (j + k)) (2 ^ k - 1) (mod-lt y (pow_pos (j + k))) (lt_of_lt_of_le (ones_lt k) (pow_mono (le-add_left k j)))
    ∙ ap (λ (n : ℕ). bit_and (y / 2 ^ (j + k)) e * 2 ^ (j + k) + n) (and_mask (y % 2 ^ (j + k)) k ∙ mod-mod-pow y j k)

two_bytes : (y : ℕ) → bit_and y 0x000000ff000000ff ≡ y / 4294967296 % 256 * 4294967296 + y % 256
two_bytes y = mask_field 8 24 y 255 ∙ ap (λ (n : ℕ). n * 4294967296 + y % 256) (and_mask (y / 4294967296) 8)

-- ---- values parted

-- the values of the eight digits, the highest first
octet : ℕ → List ℕ
octet x =
    x / 268435456 % 16 ∷ x / 16777216 % 16 ∷ x / 1048576 % 16 ∷ x / 65536 % 16 ∷ x / 4096 % 16 ∷ x / 256 % 16 ∷ x / 16 % 16 ∷ x % 16 ∷ []

octet_below : (x : ℕ) → Below 16 (octet x)
unfolding octet
octet_below x = (omega arith, (omega arith, (omega arith, (omega arith, (omega arith, (omega arith, (omega arith, (omega arith, tt))))))))

octet_digits : (x : ℕ) → map digit (octet x) ≡ digits 16 8 x
unfolding octet digits
octet_digits x =
    let a : x / 16 / 16 ≡ x / 256 = omega arith in
    let b : x / 256 / 16 ≡ x / 4096 = omega arith in
    let d : x / 4096 / 16 ≡ x / 65536 = omega arith in
    let e : x / 65536 / 16 ≡ x / 1048576 = omega arith in
    let f : x / 1048576 / 16 ≡ x / 16777216 = omega arith in
    let g : x / 16777216 / 16 ≡ x / 268435456 = omega arith in
    rw (a, b, d, e, f, g)

-- numbers in 16 bits each, the lowest first
abbrev wide : List ℕ → ℕ
wide [] = 0
wide (d ∷ ds) = wide ds * 65536 + d

-- the mask of the low 4 bits of n such numbers
abbrev fifteens : ℕ → ℕ
fifteens zero = 0
fifteens (suc n) = fifteens n * 65536 + 15

-- what a shift moves between the halves does not count
shifted_low : (r p : ℕ) → r < 256 → (r + p * 16777216) % 256 ≡ r
shifted_low r p h = omega arith

shifted_high : (r u v : ℕ) → r < 256 → u < 256 → v < 256 → (r + (u * 256 + v) * 16777216) / 4294967296 % 256 ≡ u
shifted_high r u v h l m = omega arith

halves_parted : (q p : ℕ) → q < 65536 → p < 65536
    → bit_and ((q + p * 4294967296) / 256) 0x000000ff000000ff + bit_and (q + p * 4294967296) 0x000000ff000000ff * 65536
    ≡ wide (q / 256 ∷ q % 256 ∷ p / 256 ∷ p % 256 ∷ [])
halves_parted q p h l =
    let y : ℕ = q + p * 4294967296 in
    let a : y % 256 ≡ q % 256 = omega arith in
    let b : y / 4294967296 ≡ p = omega arith in
    let f : y / 256 ≡ q / 256 + p * 16777216 = omega arith in
    let g : p ≡ p / 256 * 256 + p % 256 = omega arith in
    let r : q / 256 < 256 = omega arith in
    let u : p / 256 < 256 = omega arith in
    let v : p % 256 < 256 = omega arith in
    let d : y / 256 % 256 ≡ q / 256 = ap (λ (n : ℕ). n % 256) f ∙ shifted_low (q / 256) p r in
    let e : y / 256 / 4294967296 % 256 ≡ p / 256 =
    ap (λ (n : ℕ). n / 4294967296 % 256) f
    ∙ ap (λ (n : ℕ). (q / 256 + n * 16777216) / 4294967296 % 256) g
    ∙ shifted_high (q / 256) (p / 256) (p % 256) r u v in
    rw (two_bytes (y / 256), two_bytes y, a, b, d, e) (omega arith)

low_halves : (ds : List ℕ) → Below 256 ds → bit_and (wide ds) (fifteens (length ds)) ≡ wide (map (λ (d : ℕ). d % 16) ds)
low_halves [] h = refl
low_halves (d ∷ ds) (l, h) =
    let y : ℕ = wide ds * 65536 + d in
    let e : y / 65536 ≡ wide ds = omega arith in
    let f : y % 16 ≡ d % 16 = omega arith in
    mask_field 4 12 y (fifteens (length ds))
    ∙ ap₂ (λ (m n : ℕ). bit_and m (fifteens (length ds)) * 65536 + n) e f
    ∙ ap (λ (m : ℕ). m * 65536 + d % 16) (low_halves ds h)

high_halves : (ds : List ℕ) → Below 256 ds → bit_and (wide ds / 16) (fifteens (length ds)) ≡ wide (map (λ (d : ℕ). d / 16) ds)
high_halves [] h = refl
high_halves (d ∷ ds) (l, h) =
    let y : ℕ = wide ds * 65536 + d in
    let g : y / 16 ≡ wide ds * 4096 + d / 16 = omega arith in
    let e : y / 16 / 65536 ≡ wide ds / 16 = omega arith in
    let f : y / 16 % 16 ≡ d / 16 = ap (λ (n : ℕ). n % 16) g ∙ half_byte (wide ds) d l in
    mask_field 4 12 (y / 16) (fifteens (length ds))
    ∙ ap₂ (λ (m n : ℕ). bit_and m (fifteens (length ds)) * 65536 + n) e f
    ∙ ap (λ (m : ℕ). m * 65536 + d / 16) (high_halves ds h)
  where
    half_byte : (m d : ℕ) → d < 256 → (m * 4096 + d / 16) % 16 ≡ d / 16
    half_byte m d h = let l : d / 16 < 16 = omega arith in omega arith

-- the two halves of each byte
abbrev nibbles : List ℕ → List ℕ
nibbles [] = []
nibbles (d ∷ ds) = d / 16 ∷ d % 16 ∷ nibbles ds

wide_number : (ds : List ℕ) → wide (map (λ (d : ℕ). d / 16) ds) + wide (map (λ (d : ℕ). d % 16) ds) * 256 ≡ number_in (nibbles ds)
unfolding number_in
wide_number [] = refl
wide_number (d ∷ ds) = omega (arith, wide_number ds)

-- ---- letters

-- n bytes of 1
abbrev ones : ℕ → ℕ
ones zero = 0
ones (suc n) = ones n * 256 + 1

-- which values are 10 or more
letters : (ds : List ℕ) → Below 16 ds → bit_and ((number_in ds + ones (length ds) * 6) / 16) (ones (length ds)) ≡ number_in (map (λ (d : ℕ). (d + 6) / 16) ds)
unfolding number_in
letters [] h = refl
letters (d ∷ ds) (l, h) =
    let s : ℕ = number_in ds + ones (length ds) * 6 in
    let y : ℕ = (d + 256 * number_in ds + (ones (length ds) * 256 + 1) * 6) / 16 in
    let g : y ≡ s * 16 + (d + 6) / 16 = omega arith in
    let t : (d + 6) / 16 < 2 = omega arith in
    let e : y / 256 ≡ s / 16 = ap (λ (n : ℕ). n / 256) g ∙ high s ((d + 6) / 16) t in
    let f : y % 2 ≡ (d + 6) / 16 = ap (λ (n : ℕ). n % 2) g ∙ low s ((d + 6) / 16) t in
    mask_field 1 7 y (ones (length ds))
    ∙ ap₂ (λ (m n : ℕ). bit_and m (ones (length ds)) * 256 + n) e f
    ∙ ap (λ (m : ℕ). m * 256 + (d + 6) / 16) (letters ds h)
    ∙ omega arith
  where
    high : (s t : ℕ) → t < 2 → (s * 16 + t) / 256 ≡ s / 16
    high s t h = omega arith

    low : (s t : ℕ) → t < 2 → (s * 16 + t) % 2 ≡ t
    low s t h = omega arith

-- each digit's code from its value
glyphs : (ds : List ℕ) → Below 16 ds
    → number_in ds + ones (length ds) * zero_code + number_in (map (λ (d : ℕ). (d + 6) / 16) ds) * letter_gap ≡ number_in (map digit ds)
unfolding number_in
glyphs [] h = refl
glyphs (d ∷ ds) (l, h) = omega (arith, glyphs ds h, digit_glyph d l)

glyphs_below : (ds : List ℕ) → Below 16 ds → Below 256 (map digit ds)
glyphs_below [] h = tt
glyphs_below (d ∷ ds) (l, h) = (omega (arith, digit_glyph d l), glyphs_below ds h)

-- ---- eight digits

-- what the program computes
abbrev pub halves : ℕ → ℕ
halves x = x / 65536 + x % 65536 * 4294967296

abbrev pub quarters : ℕ → ℕ
quarters y = bit_and (y / 256) 0x000000ff000000ff + bit_and y 0x000000ff000000ff * 65536

abbrev pub eighths : ℕ → ℕ
eighths y = bit_and (y / 16) 0x000f000f000f000f + bit_and y 0x000f000f000f000f * 256

abbrev pub coded : ℕ → ℕ
coded y = y + 0x3030303030303030 + bit_and ((y + 0x0606060606060606) / 16) 0x0101010101010101 * letter_gap

-- what keeps the sums below 2 ^ 64
pub eighths_most : (y : ℕ) → eighths y ≤ 0x0f0f0f0f0f0f0f0f
eighths_most y = omega (arith, and_le_r (y / 16) 0x000f000f000f000f, and_le_r y 0x000f000f000f000f)

four_bytes : ℕ → List ℕ
four_bytes x = x / 65536 / 256 ∷ x / 65536 % 256 ∷ x % 65536 / 256 ∷ x % 65536 % 256 ∷ []

quarters_are : (x : ℕ) → x < 4294967296 → quarters (halves x) ≡ wide (four_bytes x)
unfolding four_bytes
quarters_are x h =
    let q : x / 65536 < 65536 = omega arith in
    let p : x % 65536 < 65536 = omega arith in
    halves_parted (x / 65536) (x % 65536) q p

four_bytes_below : (x : ℕ) → x < 4294967296 → Below 256 (four_bytes x)
unfolding four_bytes
four_bytes_below x h = (omega arith, (omega arith, (omega arith, (omega arith, tt))))

half_low : (y : ℕ) → y % 65536 % 256 ≡ y % 256
half_low y = omega arith

half_high : (y : ℕ) → y % 65536 / 256 ≡ y / 256 % 256
half_high y = omega arith

byte_low : (y : ℕ) → y % 256 % 16 ≡ y % 16
byte_low y = omega arith

byte_high : (y : ℕ) → y % 256 / 16 ≡ y / 16 % 16
byte_high y = omega arith

octet_nibbles : (x : ℕ) → x < 4294967296 → nibbles (four_bytes x) ≡ octet x
unfolding four_bytes octet
octet_nibbles x h =
    let d : x / 65536 / 256 ≡ x / 16777216 % 256 = omega arith in
    let e : x / 256 / 16 ≡ x / 4096 = omega arith in
    let f : x / 65536 / 16 ≡ x / 1048576 = omega arith in
    let g : x / 16777216 / 16 ≡ x / 268435456 = omega arith in
    simp (half_low, half_high, d, byte_low, byte_high, e, f, g)

pub eight_digits_lem : (x : ℕ) → x < 4294967296 → bytes_of 8 (coded (eighths (quarters (halves x)))) ≡ digits 16 8 x
unfolding four_bytes octet
eight_digits_lem x h =
    let b : Below 16 (octet x) = octet_below x in
    ap (λ (y : ℕ). bytes_of 8 (coded (eighths y))) (quarters_are x h)
    ∙ ap₂ (λ (y z : ℕ). bytes_of 8 (coded (y + z * 256))) (high_halves (four_bytes x) (four_bytes_below x h)) (low_halves (four_bytes x) (four_bytes_below x h))
    ∙ ap (λ (y : ℕ). bytes_of 8 (coded y)) (wide_number (four_bytes x) ∙ ap number_in (octet_nibbles x h))
    ∙ ap (λ (y : ℕ). bytes_of 8 (number_in (octet x) + 0x3030303030303030 + y * letter_gap)) (letters (octet x) b)
    ∙ ap (λ (y : ℕ). bytes_of 8 y) (glyphs (octet x) b)
    ∙ bytes_below (map digit (octet x)) (glyphs_below (octet x) b)
    ∙ octet_digits x
