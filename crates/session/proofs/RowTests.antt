-- The test of a row, one condition after the other.
use Prim.Native.Nat.{ℕ}
use mathlib.Core.Path.{◌≡◌, sym, ap, ◌∙◌}
use mathlib.Core.Bool.{true, false}
use mathlib.Core.List.{List}
use mathlib.Core.Logic.{⊎_elim}
use native.Mathlib.Omega.{arith}
use lib.Dec.{eqb}
use lib.ListN.{length, get_or, drop}
use lib.Seq.{get_or-take, get_or-drop}
use borrow.Author.Tests.{eqb-true, eq-eqb, ne_eqb}
use Rattle.lists.proofs.Bools.{and_0, and_1, decide, refuted}
use Rattle.image.specs.Limits.{is_free, used_kind}
use Rattle.image.proofs.KindLaws.{used_free}
use Rattle.rule_words.specs.Words.{rule_width, all_zero, kept_well}
use Rattle.rule_words.proofs.KeptTest.{kept_few}
use Rattle.session.specs.Limits.{row_width, kind_at, permit_at, run_at, behalf_at, declared_at, declared}
use Rattle.session.specs.Rows.{free_words, permit_words, run_words, behalf_good, container_row_good, singles, is_declared, user_rule_words, user_row_good}
use Rattle.session.proofs.RowMeaning.{good_free}

module _ (ws : List ℕ) where
  pub free_row : is_free (get_or ws kind_at 0) ≡ true → all_zero ws ≡ container_row_good ws
  unfolding container_row_good
  free_row f = rw f

  module _ (f : is_free (get_or ws kind_at 0) ≡ false) where
    pub other_kind : used_kind (get_or ws kind_at 0) ≡ false → false ≡ container_row_good ws
    unfolding container_row_good
    other_kind u = rw (f, u)

    module _ (u : used_kind (get_or ws kind_at 0) ≡ true) where
      pub bad_permit : kept_well (permit_words ws) ≡ false → false ≡ container_row_good ws
      unfolding container_row_good
      bad_permit p = rw (f, u, p)

      module _ (p : kept_well (permit_words ws) ≡ true) where
        pub bad_run : kept_well (run_words ws) ≡ false → false ≡ container_row_good ws
        unfolding container_row_good
        bad_run r = rw (f, u, p, r)

        pub by_behalf : kept_well (run_words ws) ≡ true → behalf_good (get_or ws kind_at 0) (get_or ws behalf_at 0) ≡ container_row_good ws
        unfolding container_row_good
        by_behalf r = rw (f, u, p, r)

  pub undeclared_row : get_or ws declared_at 0 ≡ 0 → all_zero ws ≡ user_row_good ws
  unfolding user_row_good
  undeclared_row e = rw (eq-eqb (get_or ws declared_at 0) 0 e)

  pub other_first : (get_or ws declared_at 0 ≡ 0 → ⊥) → (get_or ws declared_at 0 ≡ declared → ⊥) → false ≡ user_row_good ws
  unfolding user_row_good is_declared
  other_first e d = rw (ne_eqb (get_or ws declared_at 0) 0 e, ne_eqb (get_or ws declared_at 0) declared d)

  pub by_user_rule : (get_or ws declared_at 0 ≡ 0 → ⊥) → get_or ws declared_at 0 ≡ declared → kept_well (user_rule_words ws) ≡ user_row_good ws
  unfolding user_row_good is_declared
  by_user_rule e d = rw (ne_eqb (get_or ws declared_at 0) 0 e, eq-eqb (get_or ws declared_at 0) declared d)

-- ---- a row whose rules have one mixture each

module _ (ws : List ℕ) (s : singles ws ≡ true) where
  permit_one : get_or ws permit_at 0 ≡ 1
  unfolding singles
  permit_one = eqb-true (get_or ws permit_at 0) 1 (and_0 (eqb (get_or ws permit_at 0) 1) (eqb (get_or ws run_at 0) 1) s)

  run_one : get_or ws run_at 0 ≡ 1
  unfolding singles
  run_one = eqb-true (get_or ws run_at 0) 1 (and_1 (eqb (get_or ws permit_at 0) 1) s)

  single_permit : all_zero (drop 2 (permit_words ws)) ≡ kept_well (permit_words ws)
  unfolding permit_words
  single_permit = kept_few (permit_words ws) 1 (get_or-take rule_width (drop permit_at ws) 0 0 (omega arith) ∙ get_or-drop permit_at ws 0 0 ∙ permit_one) (omega arith) (omega arith)

  single_run : all_zero (drop 2 (run_words ws)) ≡ kept_well (run_words ws)
  unfolding run_words
  single_run = kept_few (run_words ws) 1 (get_or-take rule_width (drop run_at ws) 0 0 (omega arith) ∙ get_or-drop run_at ws 0 0 ∙ run_one) (omega arith) (omega arith)

  -- its count is not 0, so it is not free
  pub single_kind : length ws ≡ row_width → used_kind (get_or ws kind_at 0) ≡ false → false ≡ container_row_good ws
  unfolding free_words
  single_kind l u =
      ⊎_elim
      (λ f. sym (refuted (container_row_good ws) (λ g. omega (arith, permit_one, ap (λ (x : List ℕ). get_or x permit_at 0) (good_free ws l g f)))))
      (λ f. other_kind ws f u)
      (decide (is_free (get_or ws kind_at 0)))

  module _ (u : used_kind (get_or ws kind_at 0) ≡ true) where
    pub single_bad_permit : all_zero (drop 2 (permit_words ws)) ≡ false → false ≡ container_row_good ws
    single_bad_permit p = bad_permit ws (used_free (get_or ws kind_at 0) u) u (sym single_permit ∙ p)

    module _ (p : all_zero (drop 2 (permit_words ws)) ≡ true) where
      pub single_bad_run : all_zero (drop 2 (run_words ws)) ≡ false → false ≡ container_row_good ws
      single_bad_run r = bad_run ws (used_free (get_or ws kind_at 0) u) u (sym single_permit ∙ p) (sym single_run ∙ r)

      pub single_by_behalf : all_zero (drop 2 (run_words ws)) ≡ true → behalf_good (get_or ws kind_at 0) (get_or ws behalf_at 0) ≡ container_row_good ws
      single_by_behalf r = by_behalf ws (used_free (get_or ws kind_at 0) u) u (sym single_permit ∙ p) (sym single_run ∙ r)
