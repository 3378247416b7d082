-- The version of the library: major, minor and patch in one number, eight bits for each of the last two.
use Rattle.std.specs.Prelude.{ℕ, ◌+◌, ◌*◌}

abbrev pub version_number : ℕ → ℕ → ℕ → ℕ
version_number major minor patch = major * 65536 + minor * 256 + patch

-- of this edition: 0.4.0
abbrev pub version : ℕ
version = version_number 0 4 0
