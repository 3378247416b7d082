-- What it is to write bytes into a lent buffer.
use Rattle.std.specs.Prelude.{ℕ, ◌+◌, ◌≡◌, List, ◌++◌, length, take, drop}

-- the buffer with these bytes at a place, every other byte as it was
unfoldable pub overwritten : List ℕ → ℕ → List ℕ → List ℕ
overwritten bytes at before = take at before ++ bytes ++ drop (at + length bytes) before

-- the bytes were written at `at`, and `next` is the place behind them
pub record Wrote (bytes before after : List ℕ) (at next : ℕ) : Type 0 where
  pub buffer : after ≡ overwritten bytes at before
  pub ends : next ≡ at + length bytes
