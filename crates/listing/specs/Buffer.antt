-- What it is to write a part of a line, and how much room a line needs.
use Rattle.std.specs.Prelude.{ℕ, ◌+◌, ◌*◌, ◌≤◌, ◌≡◌, List, ◌++◌, length, take, drop}
use Rattle.fields.specs.Writing.{Wrote}
use Rattle.fields.specs.Bytes.{bytes_of}
use Rattle.listing.specs.declared.Word.{Word}
use Rattle.listing.specs.Text.{decimal_limit, tag_digits}

-- the text was written at `at`, `next` is the place behind it, and beside it nothing changed but at most `spare` bytes from
-- `next` on, which the next text of the line overwrites
pub record WroteWithSpare (text : List ℕ) (spare : ℕ) (before after : List ℕ) (at next : ℕ) : Type 0 where
  pub starts : take next after ≡ take at before ++ text
  pub rest : drop (next + spare) after ≡ drop (next + spare) before
  pub ends : next ≡ at + length text

-- ---- words

-- the most letters of a word: the bytes of a number of 64 bits
abbrev pub word_limit : ℕ
word_limit = 8

-- the fewest: behind a word and its space at most 4 of these bytes do not count
abbrev pub word_least : ℕ
word_least = 3

abbrev pub word_of : ℕ → ℕ → Word
word_of letters length = record { letters = letters; length = length }

-- the letters of a word
abbrev pub letters_of : Word → List ℕ
letters_of word = take word.length (bytes_of word_limit word.letters)

-- the text is the word's letters, and its length the word's
pub record Spells (text : List ℕ) (word : Word) : Type 0 where
  pub letters : letters_of word ≡ text
  pub long : word.length ≡ length text

-- ---- room

-- the most bytes of a number with the space in front
abbrev pub field_limit : ℕ
field_limit = decimal_limit + 1

-- the most bytes of an operation's word
abbrev pub operation_limit : ℕ
operation_limit = 8

-- the most bytes of a verdict's word
abbrev pub verdict_limit : ℕ
verdict_limit = 7

-- the most bytes of a step's number, word, p and o, with the space behind each
abbrev pub access_limit : ℕ
access_limit = (decimal_limit + 1) * 3 + (operation_limit + 1)

-- the most digits of a position, which is a byte
abbrev pub position_limit : ℕ
position_limit = 3

-- the most bytes of the fields behind them, each with the byte behind it
abbrev pub answer_limit : ℕ
answer_limit = (verdict_limit + 1) + (decimal_limit + 1) + (tag_digits + 1) + (position_limit + 1)

-- the most bytes of a line
abbrev pub line_limit : ℕ
line_limit = access_limit + answer_limit

-- ---- a buffer for lines

abbrev pub buffer_size : ℕ
buffer_size = 65536

-- a text stands at the front of the buffer, every other byte is as it was, and it ends inside it
pub record ListedText (text before after : List ℕ) (end : ℕ) : Type 0 where
  pub front : Wrote text before after 0 end
  pub room : end ≤ buffer_size
