-- The numbers of the game. Rights 0 to 8 are reads, 9 to 17 writes, each by subject, then object; the move of the same number uses the
-- right, and the last move is the pass.
use Rattle.std.specs.Prelude.{ℕ}

-- "at most 3 subjects and 3 objects"
abbrev pub side_limit : ℕ
side_limit = 3

abbrev pub read_count : ℕ
read_count = 9

abbrev pub right_count : ℕ
right_count = 18

abbrev pub move_count : ℕ
move_count = 19

-- "1 to 4 rounds"
abbrev pub round_limit : ℕ
round_limit = 4

-- "0 to 2 withdrawals in all"
abbrev pub withdrawal_limit : ℕ
withdrawal_limit = 2
