-- What the numbers of a session say, as rows and rules of users: the table of operations speaks of these (the paper,
-- "Session").
use Rattle.std.specs.Prelude.{ℕ, cond, ◌&&◌, List, ltb}
use Rattle.std.proofs.Math.Option.{none, some}
use Rattle.image.specs.Limits.{container_limit, user_limit}
use Rattle.session.specs.Rows.{row_of, is_declared, user_rule_of, container_row, user_row}
use Rattle.chains.specs.Table.{State, free_row}

-- "256 rows ..., then 16 user rows": a number beyond them names a free row, an undeclared user
unfoldable pub view : List ℕ → State
view s =
    record {
      row = λ c. cond (ltb c container_limit) (row_of (container_row s c)) free_row;
      user = λ u. cond (ltb u user_limit && is_declared (user_row s u)) (some (user_rule_of (user_row s u))) none;
    }
