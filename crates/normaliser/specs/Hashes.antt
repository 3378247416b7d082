-- How equal rules are found: the contracts of this crate's private functions. No public contract cites this file.
-- Rules with the same words have the same hash. The table has two places for a hash: its own, and the one opposite, which a rule takes that
-- differs from the one at its hash.
use Rattle.std.specs.Prelude.{ℕ, ◌+◌, ◌-◌, ◌*◌, ◌/◌, ◌%◌, ◌^◌, ◌≤◌, ◌<◌, Bool, cond, ◌&&◌, ◌||◌, List, [], ◌∷◌, eqb, length, get_or, take, drop}
use Rattle.std.specs.Int.Bits.{bit_or, bit_xor}
use Rattle.rule_words.specs.Words.{rule_width}
use Rattle.normaliser.specs.Writer.{form_width}

-- the words of rule k
unfoldable pub words_at : List ℕ → ℕ → List ℕ
words_at forms k = take form_width (drop (k * form_width) forms)

-- the bits of a word, and by how many a number is rotated
abbrev pub word_bits : ℕ
word_bits = 64

abbrev pub rotation : ℕ
rotation = 5

-- the words go into h one after the other: h is rotated, then takes the word's bits
unfoldable pub mixed : ℕ → List ℕ → ℕ
mixed h [] = h
mixed h (w ∷ ws) = mixed (bit_xor (bit_or (h * 2 ^ rotation % 2 ^ word_bits) (h / 2 ^ (word_bits - rotation))) w) ws

-- how many numbers of half as many bits there are, and the factor that spreads them
abbrev pub half_words : ℕ
half_words = 2 ^ 32

abbrev pub spread_factor : ℕ
spread_factor = 2654435761

-- a number of 64 bits as one of 32, each bit of which depends on many
unfoldable pub spread : ℕ → ℕ
spread h = (h / half_words + h % half_words) % half_words * spread_factor % half_words

-- the most slots of a table
abbrev pub slot_limit : ℕ
slot_limit = 4096

-- the hash of the words among n
unfoldable pub hash_of : ℕ → List ℕ → ℕ
hash_of n ws = spread (mixed 0 ws) * n / half_words

-- words with the same first mixture and the same owner
unfoldable pub alike : List ℕ → List ℕ → Bool
alike v w = eqb (get_or v 1 0) (get_or w 1 0) && eqb (get_or v rule_width 0) (get_or w rule_width 0)

-- the place of these words in the table: that of their hash, if it is free or has a rule with words alike; else the one opposite
unfoldable pub slot_of : List ℕ → List ℕ → List ℕ → ℕ
slot_of forms slots ws =
    cond
    (eqb (get_or slots (hash_of (length slots) ws) 0) 0 || alike ws (words_at forms (get_or slots (hash_of (length slots) ws) 0 - 1)))
    (hash_of (length slots) ws)
    (length slots - 1 - hash_of (length slots) ws)

-- the place of each of the first k rules is taken in the table, which has numbers from 1 of these rules
pub record Hashed (forms slots : List ℕ) (k : ℕ) : Type 0 where
  pub some : 0 < length slots
  pub few : length slots ≤ slot_limit
  pub seen : (j : ℕ) → j < k → 0 < get_or slots (slot_of forms slots (words_at forms j)) 0
  pub inside : (h : ℕ) → get_or slots h 0 ≤ k
