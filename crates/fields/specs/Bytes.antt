-- "Stored numbers are little-endian"; a section is cut into records of one width (the paper, "Policy image").
use Rattle.std.specs.Prelude.{ℕ, zero, suc, ◌+◌, ◌*◌, ◌/◌, ◌%◌, ◌<◌, List, [], ◌∷◌, length, get_or, take, drop}

-- the number that the bytes s spell
unfoldable pub number_in : List ℕ → ℕ
number_in [] = 0
number_in (b ∷ s) = b + 256 * number_in s

-- the w bytes of n
unfoldable pub bytes_of : ℕ → ℕ → List ℕ
bytes_of zero n = []
bytes_of (suc w) n = n % 256 ∷ bytes_of w (n / 256)

-- the number of w bytes that stands at a place of s
unfoldable pub field : List ℕ → ℕ → ℕ → ℕ
field s at w = number_in (take w (drop at s))

-- the first n records of w bytes
unfoldable pub cut : ℕ → ℕ → List ℕ → List (List ℕ)
cut w zero s = []
cut w (suc n) s = take w s ∷ cut w n (drop w s)

-- the records of w bytes of a section
unfoldable pub records : ℕ → List ℕ → List (List ℕ)
records w s = cut w (length s / w) s

-- s is a list of bytes
abbrev pub Bytes : List ℕ → Type 0
Bytes s = (k : ℕ) → get_or s k 0 < 256
