-- What the view says of a session: row by row, user by user.
use Prim.Native.Nat.{ℕ, ◌≤◌, ◌<◌}
use mathlib.Core.Path.{◌≡◌}
use mathlib.Core.Bool.{cond}
use mathlib.Core.List.{List}
use mathlib.Core.Option.{none, some}
use borrow.Author.Tests.{lt-ltb, le-ltb}
use Rattle.image.specs.Limits.{container_limit, user_limit}
use Rattle.session.specs.Rows.{row_of, is_declared, user_rule_of, container_row, user_row}
use Rattle.chains.specs.Table.{free_row}
use Rattle.operations.specs.View.{view}

pub view_row : (s : List ℕ) (c : ℕ) → c < container_limit → (view s).row c ≡ row_of (container_row s c)
unfolding view
view_row s c l = rw (lt-ltb c container_limit l)

pub view_user : (s : List ℕ) (u : ℕ) → u < user_limit → (view s).user u ≡ cond (is_declared (user_row s u)) (some (user_rule_of (user_row s u))) none
unfolding view
view_user s u l = rw (lt-ltb u user_limit l)

-- beyond the session's rows

pub view_no_row : (s : List ℕ) (c : ℕ) → container_limit ≤ c → (view s).row c ≡ free_row
unfolding view
view_no_row s c l = rw (le-ltb c container_limit l)

pub view_no_user : (s : List ℕ) (u : ℕ) → user_limit ≤ u → (view s).user u ≡ none
unfolding view
view_no_user s u l = rw (le-ltb u user_limit l)
