-- Laws of numbers as text. Theorems restates those that a reader or another crate needs.
use Prim.Native.Nat.{ℕ, zero, suc, ◌+◌, ◌*◌, ◌-◌, ◌/◌, ◌%◌, ◌^◌, ◌≤◌, ◌<◌}
use native.Mathlib.Nat.{pow-succ', add-zero, add-suc, suc-mul}
use native.Mathlib.Numerals.{add-one}
use native.Mathlib.Omega.{arith}
use mathlib.Core.Path.{◌≡◌, refl, sym, ap, ap₂, ◌∙◌}
use mathlib.Core.Bool.{Bool, true, false}
use mathlib.Core.List.{List, [], ◌∷◌, ◌++◌, append_assoc}
use lib.Dec.{ltb, eqb}
use lib.ListN.{length, get_or, take, drop, length-append, get_or-append, drop_of_length-le}
use lib.Seq.{drop-append-le}
use lib.Pow.{pow-add, mod-mod-pow}
use lib.Pow as Pow
use borrow.Author.Tests.{lt-ltb, le-ltb, ltb-true, ltb-false, eqb-true}
use Rattle.fields.specs.Ascii.{ascii}
use Rattle.fields.specs.Bytes.{number_in, bytes_of, Bytes}
use Rattle.fields.proofs.ByteLaws.{bytes_first, bytes_rest, bytes_number}
use Rattle.listing.specs.Text.{digit, digits, decimal_limit, decimal_in, decimal, tag_digits, hexadecimal, decimal_value}
use Rattle.listing.proofs.Finite.{all_at}

-- ---- one digit

-- the code of the digit 0
abbrev pub zero_code : ℕ
zero_code = 48

-- what a letter's code has beside its value and the code of the digit 0
abbrev pub letter_gap : ℕ
letter_gap = 39

-- a digit's code from its value: one from 10 on reaches 16 once 6 is added, and is a letter
abbrev pub glyph : ℕ → ℕ
glyph d = d + zero_code + (d + 6) / 16 * letter_gap

same_digit : ℕ → Bool
same_digit d = eqb (digit d) (glyph d)

pub digit_glyph : (d : ℕ) → d < 16 → digit d ≡ glyph d
unfolding same_digit digit ascii
digit_glyph d h = eqb-true _ _ (all_at same_digit 16 d refl h)

pub digit_low : (d : ℕ) → d < 10 → digit d ≡ zero_code + d
digit_low d h = let l : d < 16 = omega arith in omega (arith, digit_glyph d l)

-- ---- digits

pub digits_length : (b k n : ℕ) → length (digits b k n) ≡ k
unfolding digits
digits_length b zero n = refl
digits_length b (suc k) n =
    length-append (digits b k (n / b)) (digit (n % b) ∷ []) ∙ ap (λ (j : ℕ). j + 1) (digits_length b k (n / b)) ∙ add-one k

-- ---- decimal

decimal_in_below : (k n : ℕ) → n < 10 → decimal_in (suc k) n ≡ digit n ∷ []
unfolding decimal_in
decimal_in_below k n h = let e : n % 10 ≡ n = omega arith in simp (lt-ltb n 10 h, e)

decimal_in_above : (k n : ℕ) → 10 ≤ n → decimal_in (suc k) n ≡ decimal_in k (n / 10) ++ (digit (n % 10) ∷ [])
unfolding decimal_in
decimal_in_above k n h = simp (le-ltb n 10 h)

-- a number is below 10 or not
pub by_ten : {A : Type 0} (n : ℕ) → (n < 10 → A) → (10 ≤ n → A) → A
by_ten {A} n f g = by (ltb n 10) refl
  where
    by : (b : Bool) → ltb n 10 ≡ b → A
    by true e = f (ltb-true n 10 e)
    by false e = g (ltb-false n 10 e)

tenth : (k n : ℕ) → n < 10 ^ suc k → n / 10 < 10 ^ k
tenth k n h = omega (arith, pow-succ' 10 k)

-- enough digits are enough
one_more : (k n : ℕ) → n < 10 ^ suc k → decimal_in (suc (suc k)) n ≡ decimal_in (suc k) n
one_more zero n h = let l : n < 10 = omega arith in decimal_in_below 1 n l ∙ sym (decimal_in_below 0 n l)
one_more (suc k) n h =
    by_ten
    n
    (λ l. decimal_in_below (suc (suc k)) n l ∙ sym (decimal_in_below (suc k) n l))
    (λ l. decimal_in_above (suc (suc k)) n l ∙ ap (λ (x : List ℕ). x ++ (digit (n % 10) ∷ [])) (one_more k (n / 10) (tenth (suc k) n h)) ∙ sym (decimal_in_above (suc k) n l))

decimal_in_length : (k n : ℕ) → length (decimal_in k n) ≤ k
unfolding decimal_in
decimal_in_length zero n = omega arith
decimal_in_length (suc k) n =
    by_ten
    n
    (λ l. omega (arith, ap length (decimal_in_below k n l)))
    (λ l. omega (arith, ap length (decimal_in_above k n l), length-append (decimal_in k (n / 10)) (digit (n % 10) ∷ []), decimal_in_length k (n / 10)))

-- a smaller number has fewer digits
decimal_in_few : (j k n : ℕ) → n < 10 ^ suc k → length (decimal_in j n) ≤ suc k
unfolding decimal_in
decimal_in_few zero k n h = omega arith
decimal_in_few (suc j) k n h =
    by_ten n (λ l. omega (arith, ap length (decimal_in_below j n l))) (more k h (λ (i : ℕ) (l : n / 10 < 10 ^ suc i). decimal_in_few j i (n / 10) l))
  where
    more : (k : ℕ) → n < 10 ^ suc k → ((i : ℕ) → n / 10 < 10 ^ suc i → length (decimal_in j (n / 10)) ≤ suc i) → 10 ≤ n
        → length (decimal_in (suc j) n) ≤ suc k
    more zero h f l = absurd (omega arith)
    more (suc k) h f l =
        omega (arith, ap length (decimal_in_above j n l), length-append (decimal_in j (n / 10)) (digit (n % 10) ∷ []), f k (tenth (suc k) n h))

none_digits : (n : ℕ) → digits 10 (length (decimal_in 0 n)) n ≡ decimal_in 0 n
unfolding digits decimal_in
none_digits n = refl

decimal_in_digits : (k n : ℕ) → digits 10 (length (decimal_in k n)) n ≡ decimal_in k n
unfolding digits
decimal_in_digits zero n = none_digits n
decimal_in_digits (suc k) n =
    by_ten
    n
    (λ l. let e : n % 10 ≡ n = omega arith in rw (decimal_in_below k n l, e))
    (λ l. rw (decimal_in_above k n l, length-append, add-one) (ap (λ (x : List ℕ). x ++ (digit (n % 10) ∷ [])) (decimal_in_digits k (n / 10))))

pub decimal_below : (n : ℕ) → n < 10 → decimal n ≡ digit n ∷ []
unfolding decimal
decimal_below n h = decimal_in_below (decimal_limit - 1) n h

pub decimal_above : (n : ℕ) → 10 ≤ n → n < 10 ^ decimal_limit → decimal n ≡ decimal (n / 10) ++ (digit (n % 10) ∷ [])
unfolding decimal
decimal_above n l h =
    decimal_in_above (decimal_limit - 1) n l ∙ ap (λ (x : List ℕ). x ++ (digit (n % 10) ∷ [])) (sym (one_more (decimal_limit - 2) (n / 10) (tenth (decimal_limit - 1) n h)))

pub decimal_length : (n : ℕ) → length (decimal n) ≤ decimal_limit
unfolding decimal
decimal_length n = decimal_in_length decimal_limit n

pub decimal_few : (k n : ℕ) → n < 10 ^ suc k → length (decimal n) ≤ suc k
unfolding decimal
decimal_few k n h = decimal_in_few decimal_limit k n h

pub decimal_digits : (n : ℕ) → digits 10 (length (decimal n)) n ≡ decimal n
unfolding decimal
decimal_digits n = decimal_in_digits decimal_limit n

pub hexadecimal_length : (n : ℕ) → length (hexadecimal n) ≡ tag_digits
unfolding hexadecimal
hexadecimal_length n = digits_length 16 tag_digits n

-- the digits of a number's halves
digits_halves : (n : ℕ) → digits 16 tag_digits n ≡ digits 16 8 (n / 16 / 16 / 16 / 16 / 16 / 16 / 16 / 16) ++ digits 16 8 n
unfolding digits
digits_halves n = refl

digits_rest : (k n : ℕ) → digits 16 k (n % 2 ^ (k * 4)) ≡ digits 16 k n
unfolding digits
digits_rest zero n = refl
digits_rest (suc k) n =
    rw (suc-mul k 4)
    (ap₂ (λ (x y : ℕ). digits 16 k x ++ (digit y ∷ [])) (Pow.field n (k * 4) 4) (mod-mod-pow n (k * 4) 4)
    ∙ ap (λ (x : List ℕ). x ++ (digit (n % 16) ∷ [])) (digits_rest k (n / 16)))

pub hexadecimal_halves : (n : ℕ) → digits 16 8 (n / 4294967296) ++ digits 16 8 (n % 4294967296) ≡ hexadecimal n
unfolding hexadecimal
hexadecimal_halves n =
    let e : n / 16 / 16 / 16 / 16 / 16 / 16 / 16 / 16 ≡ n / 4294967296 = omega arith in
    ap (λ (x : List ℕ). digits 16 8 (n / 4294967296) ++ x) (digits_rest 8 n)
    ∙ ap (λ (x : ℕ). digits 16 8 x ++ digits 16 8 n) (sym e)
    ∙ sym (digits_halves n)

-- one more digit where the number is 10 or more
pub decimal_longer : (n : ℕ) → 10 ≤ n → n < 10 ^ decimal_limit → length (decimal n) ≡ length (decimal (n / 10)) + 1
decimal_longer n l h = ap length (decimal_above n l h) ∙ length-append (decimal (n / 10)) (digit (n % 10) ∷ [])

pub length_one : (n : ℕ) → n < 10 → length (decimal n) ≡ 1
length_one n h = ap length (decimal_below n h)

pub length_two : (n : ℕ) → 10 ≤ n → n < 100 → length (decimal n) ≡ 2
length_two n l h =
    let t : n / 10 < 10 = omega arith in
    let b : n < 10 ^ decimal_limit = omega arith in
    omega (arith, decimal_longer n l b, length_one (n / 10) t)

pub length_three : (n : ℕ) → 100 ≤ n → n < 1000 → length (decimal n) ≡ 3
length_three n l h =
    let s : 10 ≤ n = omega arith in
    let u : 10 ≤ n / 10 = omega arith in
    let t : n / 10 < 100 = omega arith in
    let b : n < 10 ^ decimal_limit = omega arith in
    omega (arith, decimal_longer n s b, length_two (n / 10) u t)

-- numbers of two and of three digits
pub decimal_two : (n : ℕ) → 10 ≤ n → n < 100 → decimal n ≡ digit (n / 10) ∷ digit (n % 10) ∷ []
decimal_two n l h =
    let t : n / 10 < 10 = omega arith in
    let b : n < 10 ^ decimal_limit = omega arith in
    decimal_above n l b ∙ ap (λ (x : List ℕ). x ++ (digit (n % 10) ∷ [])) (decimal_below (n / 10) t)

pub decimal_three : (n : ℕ) → 100 ≤ n → n < 1000 → digits 10 3 n ≡ decimal n
decimal_three n l h = rw (length_three n l h) at (decimal_digits n)

-- ---- digits as the bytes of a number

-- a shift by whole bytes drops them
shifted : (k n : ℕ) → n / 2 ^ (8 * k) ≡ n / 256 ^ k
shifted k n = ap (λ (i : ℕ). n / i) (by k)
  where
    by : (k : ℕ) → 2 ^ (8 * k) ≡ 256 ^ k
    by zero = refl
    by (suc k) =
        let e : 8 * suc k ≡ 8 + 8 * k = omega arith in
        ap (λ (i : ℕ). 2 ^ i) e ∙ pow-add 2 8 (8 * k) ∙ ap (λ (i : ℕ). 256 * i) (by k) ∙ sym (pow-succ' 256 k)

digits_drop : (b k m n : ℕ) → drop k (digits b (k + m) n) ≡ digits b m n
unfolding digits
digits_drop b k zero n = rw (add-zero k) (drop_of_length-le (digits b k n) {i = k} (omega (arith, digits_length b k n)))
digits_drop b k (suc m) n =
    rw (add-suc k m)
    (drop-append-le k (digits b (k + m) (n / b)) (digit (n % b) ∷ []) (omega (arith, digits_length b (k + m) (n / b)))
    ∙ ap (λ (x : List ℕ). x ++ (digit (n % b) ∷ [])) (digits_drop b k m (n / b)))

-- a number of at most three digits, which are the bytes of x: its first bytes once the unused digits are shifted out
pub short_number : (n k x : ℕ) → k + length (decimal n) ≡ 3 → bytes_of 3 x ≡ digits 10 3 n
    → take (length (decimal n)) (bytes_of 4 (x / 2 ^ (8 * k))) ≡ decimal n
short_number n k x e p =
    let m : ℕ = length (decimal n) in
    let f : m + (4 - m) ≡ 4 = omega arith in
    ap (λ (i : ℕ). take m (bytes_of i (x / 2 ^ (8 * k)))) (sym f)
    ∙ bytes_first m (4 - m) (x / 2 ^ (8 * k))
    ∙ ap (λ (y : ℕ). bytes_of m y) (shifted k x)
    ∙ sym (bytes_rest k m x)
    ∙ ap (λ (i : ℕ). drop k (bytes_of i x)) e
    ∙ ap (λ (y : List ℕ). drop k y) p
    ∙ ap (λ (i : ℕ). drop k (digits 10 i n)) (sym e)
    ∙ digits_drop 10 k m n
    ∙ decimal_digits n

pub low_digit : (n : ℕ) → digit (n % 10) ≡ zero_code + n % 10
low_digit n = let l : n % 10 < 10 = omega arith in digit_low (n % 10) l

-- each is below the bound
abbrev pub Below : ℕ → List ℕ → Type 0
Below k [] = Unit {0}
Below k (d ∷ ds) = (d < k) × Below k ds

below_bytes : (ds : List ℕ) → Below 256 ds → Bytes ds
below_bytes [] h k = omega arith
below_bytes (d ∷ ds) (l, h) zero = l
below_bytes (d ∷ ds) (l, h) (suc k) = below_bytes ds h k

-- bytes are those of the number that they spell
pub bytes_below : (ds : List ℕ) → Below 256 ds → bytes_of (length ds) (number_in ds) ≡ ds
bytes_below ds h = bytes_number ds (below_bytes ds h)

three_spelled : (h t d : ℕ) → (h * 100 + t * 10 + d) * 65536 + 3158064 - (h * 10 + t) * 655104 - h * 2559
    ≡ number_in ((zero_code + h) ∷ (zero_code + t) ∷ (zero_code + d) ∷ [])
unfolding number_in
three_spelled h t d = omega arith

pub three_digits_lem : (n : ℕ) → n < 1000 → bytes_of 3 (n * 65536 + 3158064 - n / 10 * 655104 - n / 100 * 2559) ≡ digits 10 3 n
unfolding digits
three_digits_lem n l =
    let h : ℕ = n / 10 / 10 % 10 in
    let t : ℕ = n / 10 % 10 in
    let d : ℕ = n % 10 in
    let u : n ≡ h * 100 + t * 10 + d = omega arith in
    let v : n / 10 ≡ h * 10 + t = omega arith in
    let w : n / 100 ≡ h = omega arith in
    ap (λ (i : ℕ). bytes_of 3 (i * 65536 + 3158064 - n / 10 * 655104 - n / 100 * 2559)) u
    ∙ ap₂ (λ (i j : ℕ). bytes_of 3 ((h * 100 + t * 10 + d) * 65536 + 3158064 - i * 655104 - j * 2559)) v w
    ∙ ap (λ (i : ℕ). bytes_of 3 i) (three_spelled h t d)
    ∙ bytes_below ((zero_code + h) ∷ (zero_code + t) ∷ (zero_code + d) ∷ []) (omega arith, (omega arith, (omega arith, tt)))
    ∙ rw (low_digit (n / 10 / 10), low_digit (n / 10), low_digit n)

-- the last three digits are those of the rest by 1,000
pub group_digits : (n : ℕ) → digits 10 3 (n % 1000) ≡ digits 10 3 n
unfolding digits
group_digits n =
    let a : n % 1000 / 10 / 10 % 10 ≡ n / 10 / 10 % 10 = omega arith in
    let b : n % 1000 / 10 % 10 ≡ n / 10 % 10 = omega arith in
    let d : n % 1000 % 10 ≡ n % 10 = omega arith in
    rw (a, b, d)

-- a number of four digits or more is its thousands and the last three digits
pub decimal_thousands : (n : ℕ) → 1000 ≤ n → n < 10 ^ decimal_limit → decimal (n / 1000) ++ digits 10 3 n ≡ decimal n
unfolding digits
decimal_thousands n l h =
    let p : 10 ≤ n / 10 / 10 = omega arith in
    let q : 10 ≤ n / 10 = omega arith in
    let b : n / 10 < 10 ^ decimal_limit = omega arith in
    let d : n / 10 / 10 < 10 ^ decimal_limit = omega arith in
    let e : n / 10 / 10 / 10 ≡ n / 1000 = omega arith in
    rw (decimal_above n (omega arith) h, decimal_above (n / 10) q b, decimal_above (n / 10 / 10) p d, e) (simp append_assoc)

-- ---- reading back

value_snoc : (v : ℕ) (x : List ℕ) (d : ℕ) → decimal_value v (x ++ (d ∷ [])) ≡ decimal_value v x * 10 + (d - zero_code)
unfolding decimal_value digit ascii
value_snoc v [] d = refl
value_snoc v (y ∷ x) d = value_snoc (v * 10 + (y - zero_code)) x d

value_one : (d : ℕ) → decimal_value 0 (d ∷ []) ≡ d - zero_code
unfolding decimal_value digit ascii
value_one d = omega arith

value_none : (n : ℕ) → decimal_value 0 (decimal_in 0 n) ≡ 0
unfolding decimal_value decimal_in
value_none n = refl

value_decimal_in : (k n : ℕ) → n < 10 ^ k → decimal_value 0 (decimal_in k n) ≡ n
value_decimal_in zero n h = omega (arith, value_none n)
value_decimal_in (suc k) n h =
    by_ten
    n
    (λ l. rw (decimal_in_below k n l, value_one) (omega (arith, digit_low n l)))
    (λ l.
    let u : n % 10 < 10 = omega arith in
    rw (decimal_in_above k n l, value_snoc) (omega (arith, value_decimal_in k (n / 10) (tenth k n h), digit_low (n % 10) u)))

pub value_decimal : (n : ℕ) → n < 10 ^ decimal_limit → decimal_value 0 (decimal n) ≡ n
unfolding decimal
value_decimal n h = value_decimal_in decimal_limit n h

-- ---- the first digit

some_digit : (k n : ℕ) → 0 < length (decimal_in (suc k) n)
some_digit k n =
    by_ten
    n
    (λ l. omega (arith, ap length (decimal_in_below k n l)))
    (λ l. omega (arith, ap length (decimal_in_above k n l), length-append (decimal_in k (n / 10)) (digit (n % 10) ∷ [])))

pub decimal_some : (n : ℕ) → 0 < length (decimal n)
unfolding decimal
decimal_some n = some_digit (decimal_limit - 1) n

first_digit : (k n : ℕ) → 0 < n → n < 10 ^ suc k → zero_code < get_or (decimal_in (suc k) n) 0 0
first_digit zero n p h = let l : n < 10 = omega arith in rw (decimal_in_below 0 n l) (omega (arith, digit_low n l))
first_digit (suc k) n p h =
    by_ten
    n
    (λ l. rw (decimal_in_below (suc k) n l) (omega (arith, digit_low n l)))
    (λ l.
    let q : 0 < n / 10 = omega arith in
    rw
    (decimal_in_above (suc k) n l, get_or-append (decimal_in (suc k) (n / 10)) (digit (n % 10) ∷ []) 0 0 (some_digit k (n / 10)))
    (first_digit k (n / 10) q (tenth (suc k) n h)))

pub first_decimal : (n : ℕ) → 0 < n → n < 10 ^ decimal_limit → zero_code < get_or (decimal n) 0 0
unfolding decimal
first_decimal n p h = first_digit (decimal_limit - 1) n p h
