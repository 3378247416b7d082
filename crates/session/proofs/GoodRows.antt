-- What the tests of a row say, case by case.
use Prim.Native.Nat.{ℕ, ◌≤◌}
use mathlib.Core.Path.{◌≡◌, ap, ◌∙◌}
use mathlib.Core.Bool.{true, false}
use mathlib.Core.List.{List}
use mathlib.Core.Logic.{◌⊎◌, inl, inr}
use lib.ListN.{length, get_or}
use Rattle.rules.specs.Rules.{normal}
use Rattle.rules.specs.Answers.{mixture_limit}
use Rattle.lists.proofs.Bools.{decide}
use Rattle.image.specs.Limits.{is_free}
use Rattle.session.specs.Limits.{row_width, user_width, kind_at}
use Rattle.session.specs.Rows.{Row, row_words, row_of, free_words, container_row_good, InUse, user_words, undeclared_words, is_declared, user_rule_of, user_row_good}
use Rattle.session.proofs.RowMeaning.{row_good, free_good, good_free, good_used, good_words, user_good, undeclared_good, good_undeclared, good_declared, good_user_words}

pub row_says : (ws : List ℕ) → length ws ≡ row_width → container_row_good ws ≡ true → (ws ≡ free_words) ⊎ ((w : Row) × InUse w × (ws ≡ row_words w))
row_says ws l g = by (decide (is_free (get_or ws kind_at 0)))
  where
    by : (is_free (get_or ws kind_at 0) ≡ true) ⊎ (is_free (get_or ws kind_at 0) ≡ false) → (ws ≡ free_words) ⊎ ((w : Row) × InUse w × (ws ≡ row_words w))
    by (inl f) = inl (good_free ws l g f)
    by (inr f) = inr (row_of ws, good_used ws g f, good_words ws l g f)

pub says_row : (ws : List ℕ) → (ws ≡ free_words) ⊎ ((w : Row) × InUse w × (ws ≡ row_words w)) → container_row_good ws ≡ true
says_row ws (inl e) = ap container_row_good e ∙ free_good
says_row ws (inr (w, u, e)) = ap container_row_good e ∙ row_good w u

pub user_says : (ws : List ℕ) → length ws ≡ user_width → user_row_good ws ≡ true → (ws ≡ undeclared_words) ⊎ ((r : List ℕ) × (length r ≤ mixture_limit) × (normal r ≡ r) × (ws ≡ user_words r))
user_says ws l g = by (decide (is_declared ws))
  where
    by : (is_declared ws ≡ true) ⊎ (is_declared ws ≡ false) → (ws ≡ undeclared_words) ⊎ ((r : List ℕ) × (length r ≤ mixture_limit) × (normal r ≡ r) × (ws ≡ user_words r))
    by (inl d) = inr (user_rule_of ws, (good_declared ws g d).0, (good_declared ws g d).1, good_user_words ws l g d)
    by (inr d) = inl (good_undeclared ws l g d)

pub says_user : (ws : List ℕ) → (ws ≡ undeclared_words) ⊎ ((r : List ℕ) × (length r ≤ mixture_limit) × (normal r ≡ r) × (ws ≡ user_words r)) → user_row_good ws ≡ true
says_user ws (inl e) = ap user_row_good e ∙ undeclared_good
says_user ws (inr (r, l, n, e)) = ap user_row_good e ∙ user_good r l n
