-- Rows as numbers and as what they say.
use Prim.Native.Nat.{ℕ, ◌+◌, ◌≤◌}
use mathlib.Core.Path.{◌≡◌, refl, sym, ap, ap₂, ◌∙◌}
use mathlib.Core.Bool.{Bool, true, false, cond, ◌&&◌}
use mathlib.Core.List.{List, [], ◌∷◌, ◌++◌}
use native.Mathlib.Omega.{arith}
use lib.Dec.{eqb}
use lib.ListN.{length, get_or, take, drop, replicate, length-take, length-drop, length-append, take-append-drop, drop_of_length-le}
use lib.Seq.{get_or-drop, drop-cons, drop-drop, drop_at, take_at, take_all}
use borrow.Author.Tests.{eqb-true, ne_eqb}
use Rattle.image.proofs.KindLaws.{used_kind_lem, used_free}
use Rattle.lists.proofs.Bools.{and_0, and_1, clash}
use Rattle.rules.specs.Rules.{normal}
use Rattle.rules.specs.Answers.{mixture_limit}
use Rattle.image.specs.Limits.{last_kind, is_free, used_kind}
use Rattle.session.specs.Limits.{row_width, user_width, kind_at, tag_at, permit_at, run_at, behalf_at, nobody, declared_at, user_rule_at, declared}
use Rattle.rule_words.specs.Words.{rule_width, rule_of, words_of, all_zero, kept_well}
use Rattle.session.specs.Rows.{Row, row_words, free_words, permit_words, run_words, row_of, behalf_good, container_row_good, InUse}
use Rattle.session.specs.Rows.{user_words, undeclared_words, is_declared, user_rule_words, user_rule_of, user_row_good}
use Rattle.rule_words.proofs.ZeroLaws.{zeros, zero_is}
use Rattle.rule_words.proofs.KeptWords.{words_kept, kept_count, kept_normal, kept_short, kept_words}
use Rattle.rule_words.proofs.WordLaws.{words_rule, words_nine}

-- ---- on whose behalf

pub nobody_good : (k : ℕ) → behalf_good k nobody ≡ true
unfolding behalf_good
nobody_good k = refl

-- ---- a row in use

pub row_kind : (w : Row) → get_or (row_words w) kind_at 0 ≡ w.kind
unfolding row_words
row_kind w = refl

module _ (w : Row) (p : length w.permit ≤ mixture_limit) (r : length w.run ≤ mixture_limit) where
  pub row_length : length (row_words w) ≡ row_width
  unfolding row_words
  row_length =
      omega (arith, length-append (words_of w.permit) (words_of w.run ++ (w.behalf ∷ [])), length-append (words_of w.run) (w.behalf ∷ []), words_nine w.permit p, words_nine w.run r)

  pub row_permit : permit_words (row_words w) ≡ words_of w.permit
  unfolding permit_words row_words
  row_permit = take_at (words_of w.permit) (words_of w.run ++ (w.behalf ∷ [])) rule_width (words_nine w.permit p)

  pub row_run : run_words (row_words w) ≡ words_of w.run
  unfolding run_words row_words
  row_run =
      ap (take rule_width) (drop_at (words_of w.permit) (words_of w.run ++ (w.behalf ∷ [])) rule_width (words_nine w.permit p))
      ∙ take_at (words_of w.run) (w.behalf ∷ []) rule_width (words_nine w.run r)

  pub row_behalf : get_or (row_words w) behalf_at 0 ≡ w.behalf
  unfolding row_words
  row_behalf = sym (get_or-drop behalf_at (row_words w) 0 0) ∙ ap (λ (x : List ℕ). get_or x 0 0) last
    where
      last : drop (rule_width + rule_width) (words_of w.permit ++ (words_of w.run ++ (w.behalf ∷ []))) ≡ w.behalf ∷ []
      last =
          sym (drop-drop rule_width rule_width (words_of w.permit ++ (words_of w.run ++ (w.behalf ∷ []))))
          ∙ ap (drop rule_width) (drop_at (words_of w.permit) (words_of w.run ++ (w.behalf ∷ [])) rule_width (words_nine w.permit p))
          ∙ drop_at (words_of w.run) (w.behalf ∷ []) rule_width (words_nine w.run r)

  pub row_words_lem : row_of (row_words w) ≡ w
  unfolding row_of
  row_words_lem =
      let e : rule_of (permit_words (row_words w)) ≡ w.permit = ap rule_of row_permit ∙ words_rule w.permit in
      let f : rule_of (run_words (row_words w)) ≡ w.run = ap rule_of row_run ∙ words_rule w.run in
      said e f row_behalf
    where
      said : rule_of (permit_words (row_words w)) ≡ w.permit → rule_of (run_words (row_words w)) ≡ w.run → get_or (row_words w) behalf_at 0 ≡ w.behalf
          → row_of (row_words w) ≡ w
      said e f g = unfold row_words in (λ i. record { kind = w.kind; tag = w.tag; permit = e i; run = f i; behalf = g i })

pub row_good : (w : Row) → InUse w → container_row_good (row_words w) ≡ true
unfolding container_row_good
row_good w u =
    let p : length w.permit ≤ mixture_limit = u.permit_short in
    let r : length w.run ≤ mixture_limit = u.run_short in
    rw (
      row_kind w,
      used_free w.kind u.used,
      row_permit w p r,
      row_run w p r,
      u.used,
      words_kept w.permit p u.permit_normal,
      words_kept w.run r u.run_normal,
      row_behalf w p r,
      u.behalf_kept,
    )

-- ---- a free row

pub free_length : length free_words ≡ row_width
unfolding free_words
free_length = refl

pub free_good : container_row_good free_words ≡ true
unfolding container_row_good free_words is_free
free_good = zeros row_width

pub free_kind : is_free (get_or free_words kind_at 0) ≡ true
unfolding free_words is_free
free_kind = refl

-- ---- from a good row to the facts

pub good_free : (ws : List ℕ) → length ws ≡ row_width → container_row_good ws ≡ true → is_free (get_or ws kind_at 0) ≡ true → ws ≡ free_words
unfolding container_row_good free_words
good_free ws l g f = zero_is ws row_width l (rw f at g)

module _ (ws : List ℕ) (g : container_row_good ws ≡ true) where
  module _ (f : is_free (get_or ws kind_at 0) ≡ false) where
    good_tests : (used_kind (get_or ws kind_at 0) && (kept_well (permit_words ws) && (kept_well (run_words ws) && behalf_good (get_or ws kind_at 0) (get_or ws behalf_at 0)))) ≡ true
    unfolding container_row_good
    good_tests = rw f at g

    good_rules : (kept_well (permit_words ws) && (kept_well (run_words ws) && behalf_good (get_or ws kind_at 0) (get_or ws behalf_at 0))) ≡ true
    good_rules = and_1 (used_kind (get_or ws kind_at 0)) good_tests

    pub good_permit : kept_well (permit_words ws) ≡ true
    good_permit = and_0 (kept_well (permit_words ws)) _ good_rules

    good_last : (kept_well (run_words ws) && behalf_good (get_or ws kind_at 0) (get_or ws behalf_at 0)) ≡ true
    good_last = and_1 (kept_well (permit_words ws)) good_rules

    pub good_run : kept_well (run_words ws) ≡ true
    good_run = and_0 (kept_well (run_words ws)) _ good_last

    pub good_counts : (get_or (permit_words ws) 0 0 ≤ mixture_limit) × (get_or (run_words ws) 0 0 ≤ mixture_limit)
    good_counts = (kept_count (permit_words ws) good_permit, kept_count (run_words ws) good_run)

    pub good_used : InUse (row_of ws)
    unfolding row_of
    good_used =
        record {
          used = and_0 (used_kind (get_or ws kind_at 0)) _ good_tests;
          permit_short = kept_short (permit_words ws) good_permit;
          permit_normal = kept_normal (permit_words ws) good_permit;
          run_short = kept_short (run_words ws) good_run;
          run_normal = kept_normal (run_words ws) good_run;
          behalf_kept = and_1 (kept_well (run_words ws)) good_last;
        }

  -- it has one of the kinds
  pub good_kind : get_or ws kind_at 0 ≤ last_kind
  unfolding is_free
  good_kind = by (is_free (get_or ws kind_at 0)) refl
    where
      by : (b : Bool) → is_free (get_or ws kind_at 0) ≡ b → get_or ws kind_at 0 ≤ last_kind
      by true e = omega (arith, eqb-true (get_or ws kind_at 0) 0 e)
      by false e = (used_kind_lem (get_or ws kind_at 0) (and_0 (used_kind (get_or ws kind_at 0)) _ (good_tests e))).1

module _ (ws : List ℕ) (l : length ws ≡ row_width) (g : container_row_good ws ≡ true) (f : is_free (get_or ws kind_at 0) ≡ false) where
  permit_is : permit_words ws ≡ words_of (rule_of (permit_words ws))
  permit_is = kept_words (permit_words ws) (unfold permit_words in (omega (arith, length-take rule_width (drop permit_at ws), length-drop permit_at ws))) (good_permit ws g f)

  run_is : run_words ws ≡ words_of (rule_of (run_words ws))
  run_is = kept_words (run_words ws) (unfold run_words in (omega (arith, length-take rule_width (drop run_at ws), length-drop run_at ws))) (good_run ws g f)

  last_split : drop behalf_at ws ≡ get_or ws behalf_at 0 ∷ []
  last_split = drop-cons ws behalf_at 0 (omega arith) ∙ ap (λ (x : List ℕ). get_or ws behalf_at 0 ∷ x) (drop_of_length-le ws {i = row_width} (omega arith))

  row_split : ws ≡ get_or ws kind_at 0 ∷ get_or ws tag_at 0 ∷ (permit_words ws ++ (run_words ws ++ (get_or ws behalf_at 0 ∷ [])))
  unfolding permit_words run_words
  row_split =
      drop-cons ws 0 0 (omega arith)
      ∙ ap (λ (x : List ℕ). get_or ws 0 0 ∷ x)
      (drop-cons ws 1 0 (omega arith)
      ∙ ap (λ (x : List ℕ). get_or ws 1 0 ∷ x)
      (sym (take-append-drop rule_width (drop permit_at ws))
      ∙ ap (λ (x : List ℕ). take rule_width (drop permit_at ws) ++ x)
      (drop-drop rule_width permit_at ws
      ∙ sym (take-append-drop rule_width (drop run_at ws))
      ∙ ap (λ (x : List ℕ). take rule_width (drop run_at ws) ++ x) (drop-drop rule_width run_at ws ∙ last_split))))

  pub good_words : ws ≡ row_words (row_of ws)
  unfolding row_words row_of
  good_words = row_split ∙ ap₂ (λ (x y : List ℕ). get_or ws kind_at 0 ∷ get_or ws tag_at 0 ∷ (x ++ (y ++ (get_or ws behalf_at 0 ∷ [])))) permit_is run_is

-- ---- a user row

module _ (r : List ℕ) (h : length r ≤ mixture_limit) where
  pub user_length : length (user_words r) ≡ user_width
  unfolding user_words
  user_length = omega (arith, words_nine r h)

  pub user_rule : user_rule_words (user_words r) ≡ words_of r
  unfolding user_rule_words user_words
  user_rule = take_all rule_width (words_of r) (omega (arith, words_nine r h))

  pub user_words_lem : user_rule_of (user_words r) ≡ r
  unfolding user_rule_of
  user_words_lem = ap rule_of user_rule ∙ words_rule r

  pub user_good : normal r ≡ r → user_row_good (user_words r) ≡ true
  unfolding user_row_good
  user_good n = unfold is_declared user_words in (rw user_rule (words_kept r h n))

pub user_declared : (r : List ℕ) → is_declared (user_words r) ≡ true
unfolding is_declared user_words
user_declared r = refl

pub undeclared_length : length undeclared_words ≡ user_width
unfolding undeclared_words
undeclared_length = refl

pub undeclared_good : user_row_good undeclared_words ≡ true
unfolding user_row_good undeclared_words
undeclared_good = zeros user_width

pub undeclared_not : is_declared undeclared_words ≡ false
unfolding is_declared undeclared_words
undeclared_not = refl

module _ (ws : List ℕ) (g : user_row_good ws ≡ true) where
  good_cases : (b : Bool) → eqb (get_or ws declared_at 0) 0 ≡ b → cond b (all_zero ws) (is_declared ws && kept_well (user_rule_words ws)) ≡ true
  unfolding user_row_good
  good_cases b e = rw e at g

  module _ (d : is_declared ws ≡ true) where
    first_is : get_or ws declared_at 0 ≡ declared
    unfolding is_declared
    first_is = eqb-true (get_or ws declared_at 0) declared d

    pub user_kept : kept_well (user_rule_words ws) ≡ true
    user_kept = and_1 (is_declared ws) (good_cases false (ne_eqb (get_or ws declared_at 0) 0 (λ e. omega (arith, first_is))))

    pub good_declared : (length (user_rule_of ws) ≤ mixture_limit) × (normal (user_rule_of ws) ≡ user_rule_of ws)
    unfolding user_rule_of
    good_declared = (kept_short (user_rule_words ws) user_kept, kept_normal (user_rule_words ws) user_kept)

pub good_user_words : (ws : List ℕ) → length ws ≡ user_width → user_row_good ws ≡ true → is_declared ws ≡ true → ws ≡ user_words (user_rule_of ws)
unfolding user_words user_rule_of user_rule_words
good_user_words ws l g d =
    drop-cons ws 0 0 (omega arith)
    ∙ ap₂ (λ (a : ℕ) (x : List ℕ). a ∷ x) (first_is ws g d)
    (sym (take_all rule_width (drop user_rule_at ws) (omega (arith, length-drop user_rule_at ws)))
    ∙ kept_words (take rule_width (drop user_rule_at ws)) (omega (arith, length-take rule_width (drop user_rule_at ws), length-drop user_rule_at ws)) (user_kept ws g d))

pub good_undeclared : (ws : List ℕ) → length ws ≡ user_width → user_row_good ws ≡ true → is_declared ws ≡ false → ws ≡ undeclared_words
unfolding undeclared_words
good_undeclared ws l g d = by (eqb (get_or ws declared_at 0) 0) (good_cases ws g (eqb (get_or ws declared_at 0) 0) refl)
  where
    by : (b : Bool) → cond b (all_zero ws) (is_declared ws && kept_well (user_rule_words ws)) ≡ true → ws ≡ replicate user_width 0
    by true h = zero_is ws user_width l h
    by false h = clash (and_0 (is_declared ws) (kept_well (user_rule_words ws)) h) d
