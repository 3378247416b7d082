-- Marks of the hashes that the noted paths have, a bit for each of so many: a path whose hash is not marked is none of them, and is
-- not looked for. No answer depends on them.
use Rattle.std.specs.Prelude.{ℕ, ◌*◌, ◌/◌, ◌%◌, ◌^◌, ◌≡◌, Bool, true, List, map, eqb, length, get_or, take, set}
use Rattle.std.specs.Int.Bits.{bit_or}
use Rattle.lists.specs.Lists.{every, position}
use Rattle.profiles.specs.Texts.{text_limit}
use Rattle.profiles.specs.Notes.{length_limit, noted_path}

-- the words, and the bits of one
abbrev pub mark_words : ℕ
mark_words = 128

abbrev pub word_bits : ℕ
word_bits = 64

-- the mark of a hash, from the sum of the bytes
unfoldable pub mark_of : ℕ → ℕ
mark_of hash = hash / length_limit % (word_bits * mark_words)

-- the word that it is in
unfoldable pub mark_word : List ℕ → ℕ → ℕ
mark_word marks m = get_or marks (m / word_bits) 0

-- the hash is marked
unfoldable pub has_mark : List ℕ → ℕ → Bool
has_mark marks hash = eqb (mark_word marks (mark_of hash) / 2 ^ (mark_of hash % word_bits) % 2) 1

-- the marks with that of a hash
unfoldable pub with_mark : List ℕ → ℕ → List ℕ
with_mark marks hash = set marks (mark_of hash / word_bits) (bit_or (mark_word marks (mark_of hash)) (2 ^ (mark_of hash % word_bits)))

-- the hashes of the first `count` notes are marked
pub record Marked (notes marks : List ℕ) (count : ℕ) : Type 0 where
  pub long : length marks ≡ mark_words
  pub hashes : every (λ n. has_mark marks (n / text_limit)) (take count notes) ≡ true

-- none of the notes is of the path
abbrev pub Unnoted : List ℕ → List ℕ → List ℕ → Type 0
Unnoted t notes p = length notes ≡ position p (map (noted_path t) notes)
