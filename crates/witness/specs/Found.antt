-- A chain that is found, as two numbers.
use Rattle.std.specs.Prelude.{ℕ, ◌<◌, Option, Some, None}
use Rattle.image.specs.Limits.{container_limit}
use Rattle.witness.specs.declared.Found as code

-- the file where it begins, a number that is no container's if there is none, and where the records of its steps stand
pub record Found : Type 0 where
  pub file : ℕ
  pub first : ℕ

-- of what the code gives
abbrev pub file_number : Option ℕ → ℕ
file_number None = container_limit
file_number (Some f) = f

abbrev pub found_numbers : code.Found → Found
found_numbers r = record { file = file_number r.file; first = r.first }

-- a file is a container
abbrev pub Inside : Option ℕ → Type 0
Inside None = Unit {0}
Inside (Some f) = f < container_limit
