-- What a line adds to the programs, by the way that it takes through `scan::add_line`.
use Prim.Native.Nat.{ℕ, ◌+◌, ◌-◌, ◌*◌, ◌≤◌, ◌<◌}
use native.Mathlib.Omega.{arith}
use mathlib.Core.Path.{◌≡◌, refl, ◌∙◌}
use mathlib.Core.List.{List}
use mathlib.Core.Logic.{inl, inr}
use lib.Bits.{bit_or}
use lib.ListN.{length, get_or, set, length-set}
use Rattle.rules.specs.Answers.{data_width}
use Rattle.confinement.specs.Tables.{cell_count}
use Rattle.confinement.specs.Scans.{LineAdded}

module _ (own modes : List ℕ) (m number bits : ℕ) (h : length own ≡ data_width) (k : length modes ≡ cell_count) where
  pub no_number : data_width ≤ number → LineAdded own modes m number bits own modes (data_width + 1)
  no_number z =
      record {
        full = λ _. inl z;
        untouched = λ _. (refl, refl, refl);
        fits = λ l. absurd (omega arith);
        opened = λ l _. absurd (omega arith);
        entered = λ l _. absurd (omega arith);
        own_long = h;
        modes_long = k;
      }

  pub no_program : number < data_width → bits ≡ 0 → m ≡ data_width → LineAdded own modes m number bits own modes (data_width + 1)
  no_program n b z =
      record {
        full = λ _. inr (n, b, z);
        untouched = λ _. (refl, refl, refl);
        fits = λ _. n;
        opened = λ l _. absurd (omega arith);
        entered = λ l _. absurd (omega arith);
        own_long = h;
        modes_long = k;
      }

  pub program_added : m ≤ data_width → number < data_width → bits ≡ 0 → (m ≡ data_width → ⊥) → LineAdded own modes m number bits (set own m number) modes (m + 1)
  program_added f n b z =
      record {
        full = λ l. absurd (omega arith);
        untouched = λ l. absurd (omega arith);
        fits = λ _. n;
        opened = λ _ _. (omega arith, refl, refl, refl);
        entered = λ _ e. absurd (e b);
        own_long = length-set own m number ∙ h;
        modes_long = k;
      }

  abbrev cell : ℕ
  cell = (m - 1) * data_width + number

  pub modes_added : m ≤ data_width → number < data_width → (bits ≡ 0 → ⊥)
      → LineAdded own modes m number bits own (set modes cell (bit_or (get_or modes cell 0) bits)) m
  modes_added f n b =
      record {
        full = λ l. absurd (omega arith);
        untouched = λ l. absurd (omega arith);
        fits = λ _. n;
        opened = λ _ e. absurd (b e);
        entered = λ _ _. (refl, refl, refl);
        own_long = h;
        modes_long = length-set modes cell (bit_or (get_or modes cell 0) bits) ∙ k;
      }
