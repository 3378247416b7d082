-- The numbers of the paper's section "Session", each named once: lengths in words of 64 bits, and places in a row.
use Rattle.std.specs.Prelude.{ℕ, ◌+◌, ◌*◌}
use Rattle.image.specs.Limits.{container_limit, user_limit}
use Rattle.rule_words.specs.Words.{rule_width}

-- ---- "A container row: kind .., information tag, permit count, 8 mixtures, run count, 8 mixtures"

abbrev pub kind_at : ℕ
kind_at = 0

abbrev pub tag_at : ℕ
tag_at = 1

abbrev pub permit_at : ℕ
permit_at = 2

abbrev pub run_at : ℕ
run_at = permit_at + rule_width

-- "a 21st number: the user for a process, 65535 for an initial process, a file or a volatile"
abbrev pub behalf_at : ℕ
behalf_at = run_at + rule_width

abbrev pub nobody : ℕ
nobody = 65535

-- "Each container row gets a 21st number" (change request No. 5)
abbrev pub row_width : ℕ
row_width = behalf_at + 1

-- ---- "A user row: 1 if declared, count, 8 mixtures"

abbrev pub declared_at : ℕ
declared_at = 0

abbrev pub user_rule_at : ℕ
user_rule_at = 1

abbrev pub user_width : ℕ
user_width = user_rule_at + rule_width

-- the first number of the row of a declared user
abbrev pub declared : ℕ
declared = 1

-- ---- "exactly .. numbers of 64 bits: 256 rows .., then 16 user rows of 10"; "The session is now 5,536 numbers long" (change request No. 5)

-- the user rows begin behind the container rows
abbrev pub users_at : ℕ
users_at = container_limit * row_width

abbrev pub session_length : ℕ
session_length = users_at + user_limit * user_width
