-- Texts as lists of bytes: quoted words, numbers in decimal, tags in hexadecimal.
use Rattle.std.specs.Prelude.{ℕ, zero, suc, ◌+◌, ◌*◌, ◌-◌, ◌/◌, ◌%◌, cond, List, [], ◌∷◌, ◌++◌, ltb, get_or}
use Rattle.fields.specs.Ascii.{ascii}

-- a digit below 16, "small letters"
unfoldable pub digit : ℕ → ℕ
digit d = get_or (ascii "0123456789abcdef") d 0

-- the last k digits of n in base b, the highest first
unfoldable pub digits : ℕ → ℕ → ℕ → List ℕ
digits b zero n = []
digits b (suc k) n = digits b k (n / b) ++ (digit (n % b) ∷ [])

-- n in decimal, by at most k digits: those of n / 10 unless n is below 10, then n % 10
unfoldable pub decimal_in : ℕ → ℕ → List ℕ
decimal_in zero n = []
decimal_in (suc k) n = cond (ltb n 10) [] (decimal_in k (n / 10)) ++ (digit (n % 10) ∷ [])

-- the most digits of a number of 64 bits
abbrev pub decimal_limit : ℕ
decimal_limit = 20

-- a number of 64 bits in decimal, without leading zeros
unfoldable pub decimal : ℕ → List ℕ
decimal n = decimal_in decimal_limit n

-- "tag in 16 hexadecimal digits (small letters)"
abbrev pub tag_digits : ℕ
tag_digits = 16

unfoldable pub hexadecimal : ℕ → List ℕ
hexadecimal n = digits 16 tag_digits n

-- the number that decimal digits spell, behind digits that spell v
unfoldable pub decimal_value : ℕ → List ℕ → ℕ
decimal_value v [] = v
decimal_value v (d ∷ ds) = decimal_value (v * 10 + (d - digit 0)) ds
