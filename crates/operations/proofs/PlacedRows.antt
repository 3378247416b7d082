-- A row that is put is seen in its place, and every other row and user row as before; the session stays as "Session" says.
use Prim.Native.Nat.{ℕ, ◌<◌}
use mathlib.Core.Path.{◌≡◌, refl, sym, subst, ap, ◌∙◌}
use mathlib.Core.Logic.{◌≢◌}
use mathlib.Core.Bool.{Bool, true, false, cond, ◌&&◌}
use mathlib.Core.List.{List}
use mathlib.Core.Option.{none, some}
use lib.Dec.{eqb, ltb}
use lib.ListN.{length}
use borrow.Author.Tests.{eqb-true, eqb-false}
use Rattle.image.specs.Limits.{container_limit, user_limit}
use Rattle.session.specs.Limits.{session_length, row_width}
use Rattle.session.specs.Rows.{Row, row_of, row_words, container_row_good, is_declared, user_rule_of, user_row_good, container_row, user_row, put_row}
use Rattle.session.proofs.RowPuts.{put_length, put_same, put_other, put_user}
use Rattle.chains.specs.Table.{free_row, placed}
use Rattle.chains.proofs.TableStates.{same_state}
use Rattle.operations.specs.View.{view}
use Rattle.operations.proofs.ViewLaws.{view_row}
use Rattle.operations.proofs.RowsKept.{Laid}

-- the session has its length, and each of its rows is as "Session" says
pub record Valid (s : List ℕ) : Type 0 where
  pub long : length s ≡ session_length
  pub rows : (c : ℕ) → c < container_limit → container_row_good (container_row s c) ≡ true
  pub users : (u : ℕ) → u < user_limit → user_row_good (user_row s u) ≡ true

module _ (s : List ℕ) (l : length s ≡ session_length) (c : ℕ) (k : c < container_limit) (w : Row) (W : Laid w) where
  abbrev words : List ℕ
  words = row_words w

  words_long : length words ≡ row_width
  words_long = W.long

  pub placed_row : container_row (put_row s c words) c ≡ words
  placed_row = put_same s c words l k words_long

  pub placed_other : (d : ℕ) → d ≢ c → container_row (put_row s c words) d ≡ container_row s d
  placed_other = put_other s c words l k words_long

  pub placed_user : (u : ℕ) → user_row (put_row s c words) u ≡ user_row s u
  placed_user = put_user s c words l k words_long

  pub placed_long : length (put_row s c words) ≡ session_length
  placed_long = put_length s c words l k words_long ∙ l

  seen_row : (d : ℕ) → (view (put_row s c words)).row d ≡ (placed (view s) c w).row d
  unfolding placed view
  seen_row d = by (eqb d c) refl
    where
      by : (b : Bool) → eqb d c ≡ b → cond (ltb d container_limit) (row_of (container_row (put_row s c words) d)) free_row
          ≡ cond b w (cond (ltb d container_limit) (row_of (container_row s d)) free_row)
      by true e =
          subst (λ (x : ℕ). (view (put_row s c words)).row x ≡ w) (sym (eqb-true d c e))
          (view_row (put_row s c words) c k ∙ ap row_of placed_row ∙ W.said)
      by false e = ap (λ (ws : List ℕ). cond (ltb d container_limit) (row_of ws) free_row) (placed_other d (eqb-false d c e))

  seen_user : (u : ℕ) → (view (put_row s c words)).user u ≡ (placed (view s) c w).user u
  unfolding placed view
  seen_user u = ap (λ (ws : List ℕ). cond (ltb u user_limit && is_declared ws) (some (user_rule_of ws)) none) (placed_user u)

  pub view_put : view (put_row s c words) ≡ placed (view s) c w
  view_put = same_state (view (put_row s c words)) (placed (view s) c w) seen_row seen_user

pub valid_put : (s : List ℕ) → Valid s → (c : ℕ) → c < container_limit → (w : Row) → Laid w → Valid (put_row s c (row_words w))
valid_put s v c k w W = record {
  long = placed_long s v.long c k w W;
  rows = λ d m. row d m (eqb d c) refl;
  users = λ u m. ap user_row_good (placed_user s v.long c k w W u) ∙ v.users u m;
}
  where
    row : (d : ℕ) → d < container_limit → (b : Bool) → eqb d c ≡ b → container_row_good (container_row (put_row s c (row_words w)) d) ≡ true
    row d m true e =
        subst (λ (x : ℕ). container_row_good (container_row (put_row s c (row_words w)) x) ≡ true) (sym (eqb-true d c e))
        (ap container_row_good (placed_row s v.long c k w W) ∙ W.good)
    row d m false e = ap container_row_good (placed_other s v.long c k w W d (eqb-false d c e)) ∙ v.rows d m
